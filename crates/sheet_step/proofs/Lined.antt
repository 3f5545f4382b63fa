-- A line: what each return of `step` asks.
use mathlib.Core.Path.{◌≡◌, refl, sym, ap, ◌∙◌}
use mathlib.Core.Option.{Option, none, some}
use mathlib.Core.List.{List, [], ◌∷◌}
use Prim.Native.Nat.{ℕ, zero, suc, ◌+◌, ◌-◌, ◌≤◌, ◌<◌}
use native.Mathlib.Omega.{arith}
use lib.ListN.{length}
use borrow.Author.Tests.{le-leb, lt-leb}
use Rattle.paper.specs.declared.Item.{Item}
use Rattle.paper.specs.declared.Refusal.TheVariants.{Layout}
use Rattle.paper.specs.Numbers.{refused}
use Rattle.paper.specs.Layout.{whole, site_read, begin_set, a_site, a_rule, an_item, end_set}
use Rattle.paper.specs.Sites.{Site}
use Rattle.paper.specs.Sheets as paper
use Rattle.paper.specs.Sheets.{step}
use Rattle.term_table.specs.Table.{Square}
use Rattle.sheet_reader.specs.State.{Lent, lent, Tells, step_room}
use Rattle.sheet_reader.specs.Answers.{Acts, Stops}
use Rattle.sheet_reader.specs.declared.Reader.{Reader}
use Rattle.sheet_reader.specs.declared.Stepped.{Stepped}
use lib.ListN.{take, drop, length-take}
use lib.Seq.{take_all}
use Rattle.paper.specs.Words.{or_else}
use Rattle.paper.specs.Numbers.{last_line}
use Rattle.paper.specs.Layout as layout
use Rattle.paper.specs.Layout.{frame_of}
use Rattle.paper.specs.Sites.{const_prim}
use Rattle.sheet_frames.specs.Said.{max_bytes, reading_of}
use Rattle.sheet_frames.proofs.Back.{body_in, frame_back, line_back, bytes_long}
use Rattle.sheet_frames.specs.declared.Read.{Read}
use Rattle.sheet_frames.specs.declared.Frame.TheVariants as said
use Rattle.sheet_reader.specs.State.{reader_of}
use Rattle.sheet_reader.specs.Answers.{Steps, Stepping, unread}
use Rattle.sheet_reader.proofs.Acts.{stopped}

-- ---- what a line says
module _ (l : List ℕ) (got : Read) (e : got ≡ reading_of l) where
  back : (d : Site) → frame_of l ≡ frame_back got.frame (or_else (whole (site_read (body_in got))) d)
  back d = line_back d l ∙ rw e

  line_begin : (t f : ℕ) → got.frame ≡ said.Begin t f → frame_of l ≡ some (begin_set t f)
  unfolding frame_back
  line_begin t f q = back (const_prim 0) ∙ rw q

  line_rule : (x y n : ℕ) → got.frame ≡ said.Rule x y n → frame_of l ≡ some (a_rule x y n)
  unfolding frame_back
  line_rule x y n q = back (const_prim 0) ∙ rw q

  line_item : (i : Item) → got.frame ≡ said.Item i → frame_of l ≡ some (an_item i)
  unfolding frame_back
  line_item i q = back (const_prim 0) ∙ rw q

  line_end : got.frame ≡ said.End → frame_of l ≡ some end_set
  unfolding frame_back
  line_end q = back (const_prim 0) ∙ rw q

  line_wrong : got.frame ≡ said.Wrong → frame_of l ≡ none
  unfolding frame_back
  line_wrong q = back (const_prim 0) ∙ rw q

  line_site : got.frame ≡ said.Site → (x : Site) × (whole (site_read (body_in got)) ≡ some x) × (frame_of l ≡ some (a_site x))
  unfolding frame_back
  line_site q = go (whole (site_read (body_in got))) refl
    where
      here : (d : Site) → frame_of l ≡ some (a_site (or_else (whole (site_read (body_in got))) d))
      here d = back d ∙ rw q

      go : (o : Option Site) → whole (site_read (body_in got)) ≡ o → (x : Site) × (o ≡ some x) × (frame_of l ≡ some (a_site x))
      go none z =
          let a : frame_of l ≡ some (a_site (const_prim 0)) = here (const_prim 0) ∙ rw z in
          let b : frame_of l ≡ some (a_site (const_prim 1)) = here (const_prim 1) ∙ rw z in
          let c : ◌≡◌ {A = ℕ} 0 1 = cc in
          absurd (omega arith)
      go (some x) z = (x, refl, here (const_prim 0) ∙ rw z)

-- ---- the step
module _ (r : Reader) (k k' : Lent) (room room' : List ℕ) (at : ℕ) (l : List ℕ) (a : Stepped) where
  pub no_room : length room < at + step_room → a ≡ unread r at → k' ≡ k → room' ≡ room → Stepping r k k' room room' at l a
  no_room h e x y = (λ g. absurd (omega arith), λ g. (e, x, y))

  module _ (h : at + step_room ≤ length room) where
    there : ((p : paper.Ended) → Tells r k p → Steps r k k' room room' at p l a) → Stepping r k k' room room' at l a
    there f = (λ g. f, λ g. absurd (omega arith))

    acting : (p : paper.Ended) (f : layout.Frame) → r.line ≤ last_line → frame_of l ≡ some f → Acts r k k' room room' at p f a → Steps r k k' room room' at p l a
    unfolding step
    acting p f g e A = rw (le-leb r.line last_line g, e) A

    pub step_acts : (f : layout.Frame) → r.line ≤ last_line → frame_of l ≡ some f → ((p : paper.Ended) → Tells r k p → Acts r k k' room room' at p f a) → Stepping r k k' room room' at l a
    step_acts f g e A = there (λ p T. acting p f g e (A p T))

late : (r : Reader) (k : Lent) (p : paper.Ended) (l : List ℕ) → last_line < r.line → step (reader_of r k p) r.line l ≡ refused (Layout r.line)
unfolding step
late r k p l h = rw (lt-leb r.line last_line h)

wrong : (r : Reader) (k : Lent) (p : paper.Ended) (l : List ℕ) → r.line ≤ last_line → frame_of l ≡ none → step (reader_of r k p) r.line l ≡ refused (Layout r.line)
unfolding step
wrong r k p l h e = rw (le-leb r.line last_line h, e)

module _ (r : Reader) (k : Lent) (room room' : List ℕ) (at : ℕ) (l : List ℕ) (a : Stepped) (h : at + step_room ≤ length room) (S : Stops r (Layout r.line) room room' at a) where
  pub step_late : last_line < r.line → Stepping r k k room room' at l a
  step_late g = there r k k room room' at l a h (λ p T. stopped (Layout r.line) (late r k p l g) S)

  pub step_wrong : (got : Read) → got ≡ reading_of l → got.frame ≡ said.Wrong → r.line ≤ last_line → Stepping r k k room room' at l a
  step_wrong got e q g = there r k k room room' at l a h (λ p T. stopped (Layout r.line) (wrong r k p l g (line_wrong l got e q)) S)

module _ (r : Reader) (m ws it : List ℕ) (t : Square) (m' room room' : List ℕ) (at : ℕ) (l : List ℕ) (a : Stepped) (h : at + step_room ≤ length room) (g : r.line ≤ last_line) (got : Read) (e : got ≡ reading_of l) where
  pub step_begin : (x f : ℕ) → got.frame ≡ said.Begin x f → ((k : Lent) (p : paper.Ended) → Tells r k p → Acts r k k room room' at p (begin_set x f) a) → Stepping r (lent m ws it t) (lent m ws it t) room room' at l a
  step_begin x f q A = step_acts r (lent m ws it t) (lent m ws it t) room room' at l a h (begin_set x f) g (line_begin l got e x f q) (λ p T. A (lent m ws it t) p T)

  pub step_rule : (x y n : ℕ) (ws' : List ℕ) → got.frame ≡ said.Rule x y n → ((t : Square) (p : paper.Ended) → Tells r (lent m ws it t) p → Acts r (lent m ws it t) (lent m' ws' it t) room room' at p (a_rule x y n) a) → Stepping r (lent m ws it t) (lent m' ws' it t) room room' at l a
  step_rule x y n ws' q A = step_acts r (lent m ws it t) (lent m' ws' it t) room room' at l a h (a_rule x y n) g (line_rule l got e x y n q) (λ p T. A t p T)

  pub step_item : (i : Item) (ws' it' : List ℕ) → got.frame ≡ said.Item i → ((t : Square) (p : paper.Ended) → Tells r (lent m ws it t) p → Acts r (lent m ws it t) (lent m' ws' it' t) room room' at p (an_item i) a) → Stepping r (lent m ws it t) (lent m' ws' it' t) room room' at l a
  step_item i ws' it' q A = step_acts r (lent m ws it t) (lent m' ws' it' t) room room' at l a h (an_item i) g (line_item l got e i q) (λ p T. A t p T)

  pub step_end : (t' : Square) → got.frame ≡ said.End → ((i : List ℕ) (p : paper.Ended) → Tells r (lent m ws i t) p → Acts r (lent m ws i t) (lent m ws i t') room room' at p end_set a) → Stepping r (lent m ws it t) (lent m ws it t') room room' at l a
  step_end t' q A = step_acts r (lent m ws it t) (lent m ws it t') room room' at l a h end_set g (line_end l got e q) (λ p T. A it p T)

  body_of : (n : ℕ) (b : List ℕ) → n ≤ length b → take (length (take n b) - 1) (drop 1 (take n b)) ≡ take (n - 1) (drop 1 b)
  body_of zero b x = refl
  body_of (suc n) [] x = absurd (omega arith)
  body_of (suc n) (y ∷ b) x =
      let c : length (take n b) ≡ n = length-take n b ∙ omega arith in
      let d : suc (length (take n b)) - 1 ≡ n = omega arith in
      let f : suc n - 1 ≡ n = omega arith in
      rw (d, f) (take_all n (take n b) (omega arith))

  pub step_site : got.length ≤ length got.bytes → got.frame ≡ said.Site → ((w i : List ℕ) (t : Square) (p : paper.Ended) (x : Site) → whole (site_read (take (length (take got.length got.bytes) - 1) (drop 1 (take got.length got.bytes)))) ≡ some x → Tells r (lent m w i t) p → Acts r (lent m w i t) (lent m' w i t) room room' at p (a_site x) a) → Stepping r (lent m ws it t) (lent m' ws it t) room room' at l a
  step_site c q A =
      let f = line_site l got e q in
      let b = body_of got.length got.bytes c in
      step_acts r (lent m ws it t) (lent m' ws it t) room room' at l a h (a_site f.0) g f.2 (λ p T. A ws it t p f.0 (ap (λ z. whole (site_read z)) b ∙ f.1) T)

-- ---- the bytes of a line as a part of their array
pub prefix_fits : (l : List ℕ) (got : Read) → (got ≡ reading_of l) × (got.length ≤ max_bytes) → got.length ≤ length got.bytes
prefix_fits l got e = let b = bytes_long l got e.0 e.1 in let h = e.1 in omega arith

pub prefix_long : (l : List ℕ) (got : Read) → (got ≡ reading_of l) × (got.length ≤ max_bytes) → got.length ≡ length (take got.length got.bytes)
prefix_long l got e = let f = prefix_fits l got e in sym (length-take got.length got.bytes ∙ omega arith)
