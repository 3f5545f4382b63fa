-- The findings of a sheet: paper's list is the one that the code gives.
use mathlib.Core.Path.{◌≡◌}
use mathlib.Core.List.{List}
use Rattle.paper.specs.Words.{Edges}
use Rattle.paper.specs.Terms.{Head, is_rec, cyclic, cyclic_findings}
use Rattle.term_table.specs.Table.{no_edges, with_edges, unflagged}
use Rattle.term_table.specs.Heads.{Sheeted, rec_marks}
use Rattle.term_table.proofs.Found.{findings_are}

pub sheet_findings : (hs : List Head) (es : Edges) → Sheeted (λ h. h.term) is_rec hs es
    → unflagged (with_edges no_edges es) (rec_marks (λ h. h.term) is_rec hs) ≡ cyclic_findings hs es
unfolding cyclic_findings cyclic
sheet_findings hs es S = findings_are (λ h. h.term) is_rec hs es S
