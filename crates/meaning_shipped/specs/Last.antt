-- The last finding of a sheet is its 15 or its 1F, and none before it is one: the proofs.
use Rattle.std.specs.Prelude.{◌≡◌, refl, ◌⊎◌, ℕ, suc, ◌<◌}
use Rattle.std.proofs.Common.{sym, ap, ◌∙◌, inl, inr, arith}
use mathlib.Core.List.Memᴰ
use mathlib.Core.List.{List, [], ◌∷◌, ◌++◌, map, Memᴰ, append_assoc}
use Rattle.paper.specs.declared.Refusal.{Refusal}
use Rattle.paper.specs.declared.Refusal.TheVariants.{Layout}
use Rattle.paper.specs.Numbers.{Outcome, done, refused}
use Rattle.paper.specs.Rules.{Listed, report}
use Rattle.paper.specs.Terms.{cyclic_findings}
use Rattle.paper.specs.Layout.{Lines, nothing, unended, line, lines}
use Rattle.paper.specs.Sheets.{Open, outside, at_sites, at_rules, at_items, Ended, Reader, start, Stepped, listed_found, term_found, end_found, stop_found, set_ended, step, sheet_ended, read_on}
use Rattle.meaning_shipped.specs.Words.{Reads, found_in, first, next, ClosesSheet}
use Rattle.meaning_shipped.specs.Reports.{map_from}
use Rattle.meaning_shipped.specs.Line.{Does, stops, begins, adds, waits, keeps, refuses, ends, step_does}
use Rattle.meaning_shipped.specs.Reader.{reads_made}
use Rattle.meaning_shipped.specs.Says.{head_byte, list_head, refusal_head, term_head}

-- An 11, 12, 13 or 14 begins below 15.
abbrev Earlier : List ℕ → Type 0
Earlier f = head_byte f < 21

record Ending (fs : List (List ℕ)) : Type 0 where
  before : List (List ℕ)
  end : List ℕ
  is : fs ≡ before ++ (end ∷ [])
  last : ClosesSheet end
  earlier : (f : List ℕ) → Memᴰ f before → Earlier f

not_closing : (f : List ℕ) → Earlier f → ClosesSheet f → ⊥
not_closing f h (inl (t, e)) = let w = ap head_byte e in omega arith
not_closing f h (inr (t, e)) = let w = ap head_byte e in omega arith

stop_last : (at : ℕ) (x : Refusal) → Ending (stop_found at x ∷ [])
unfolding stop_found
stop_last at x = record { before = []; end = stop_found at x; is = refl; last = inr (_, refl); earlier = λ f m. absurd (Memᴰ.not-nil m) }

listed_earlier : (l : Listed) → Earlier (listed_found l)
listed_earlier l = go (list_head l)
  where
    go : (head_byte (listed_found l) ≡ 18) ⊎ (head_byte (listed_found l) ≡ 19) → Earlier (listed_found l)
    go (inl q) = omega arith
    go (inr q) = omega arith

abbrev Early : Outcome Stepped → Type 0
Early (done s) = (f : List ℕ) → Memᴰ f s.found → Earlier f
Early (refused x) = Unit {0}

step_early : {sheet : List ℕ} {d : Reader} {at : ℕ} {l : List ℕ} {rest : Lines} → Reads sheet d at (line l rest) → Early (step d at l)
step_early {d = d} {at = at} {l = l} R = go (step_does d at l (reads_made R))
  where
    go : {o : Outcome Stepped} → Does d at l o → Early o
    go (stops x) = tt
    go (begins t f) = λ f m. absurd (Memᴰ.not-nil m)
    go (adds g s a h e) = λ f m. absurd (Memᴰ.not-nil m)
    go (waits g r n h) = λ f m. absurd (Memᴰ.not-nil m)
    go (keeps g r h c w e) = λ f m. absurd (Memᴰ.not-nil m)
    go (refuses g r x c w e) = λ f m. let q = Memᴰ.eq_of_singleton m in let w = refusal_head r.place x in rw q (omega arith)
    go (ends g h v w) = unfold set_ended in (λ f m. let k = map_from listed_found (report g) f m in rw k.2 (listed_earlier k.0))

end_last : (e : Ended) (at : ℕ) (o : Open) → Ending (sheet_ended e at o)
unfolding end_found
end_last e at outside =
    record {
      before = map term_found (cyclic_findings e.heads e.edges);
      end = end_found e;
      is = refl;
      last = inl (_, refl);
      earlier = λ f m. let k = map_from term_found (cyclic_findings e.heads e.edges) f m in let w = term_head k.0 in rw k.2 (omega arith);
    }
end_last e at (at_sites g) = stop_last at (Layout at)
end_last e at (at_rules g) = stop_last at (Layout at)
end_last e at (at_items g r n) = stop_last at (Layout at)

behind : (fs gs : List (List ℕ)) → ((f : List ℕ) → Memᴰ f fs → Earlier f) → Ending gs → Ending (fs ++ gs)
behind fs gs h E = record {
  before = fs ++ E.before;
  end = E.end;
  is = ap (λ (x : List (List ℕ)). fs ++ x) E.is ∙ sym (append_assoc fs E.before (E.end ∷ []));
  last = E.last;
  earlier = λ f m. pick f (Memᴰ.append_cases fs m);
}
  where
    pick : (f : List ℕ) → Memᴰ f fs ⊎ Memᴰ f E.before → Earlier f
    pick f (inl m) = h f m
    pick f (inr m) = E.earlier f m

ending : {sheet : List ℕ} (d : Reader) (at : ℕ) (ls : Lines) → Reads sheet d at ls → Ending (read_on d at ls)
unfolding read_on
ending d at nothing R = end_last d.ended at d.stands
ending d at (unended l) R = stop_last at (Layout at)
ending d at (line l rest) R = go (step d at l) refl (step_early R) (λ s e. ending s.after (suc at) rest (next s R e))
  where
    go : (o : Outcome Stepped) → step d at l ≡ o → Early o → ((s : Stepped) → step d at l ≡ done s → Ending (read_on s.after (suc at) rest)) →
        Ending (elim o as (λ _. List (List ℕ)) [ done s ↦ s.found ++ read_on s.after (suc at) rest | refused x ↦ stop_found at x ∷ [] ])
    go (done s) e h f = behind s.found (read_on s.after (suc at) rest) h (f s e)
    go (refused x) e h f = stop_last at x

pub closed_last : (sheet : List ℕ) → (before : List (List ℕ)) × (end : List ℕ) × (found_in sheet ≡ before ++ (end ∷ [])) × ClosesSheet end ×
    ((f : List ℕ) → Memᴰ f before → ClosesSheet f → ⊥)
closed_last sheet =
    let E = ending {sheet = sheet} start 1 (lines sheet) first in
    (E.before, E.end, E.is, E.last, λ f m. not_closing f (E.earlier f m))
