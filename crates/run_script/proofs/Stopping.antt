-- What a read or a write that failed leaves.
use Rattle.std.proofs.Common.{◌≡◌, ℕ, ◌+◌, ◌%◌, ◌<◌, Bool, true, not, List, [], length, get_or, refl, ap, subst, inl, inr, ◌⊎◌, arith}
use Rattle.std.specs.Prelude.{Result, Ok, Err, OnOk, OnErr}
use Rattle.paper.specs.Classes.{Classes, no_classes}
use Rattle.class_script.specs.declared.Reply.{Reply}
use Rattle.tell_text.specs.Written.{wrote}
use Rattle.run_script.specs.declared.Place.{Place}
use Rattle.run_script.specs.Said.{is_bad, lf, full, replied, spared, InRange, line_text, Answered, Standing, stand, first_place, Took, Unwritten, IsFedTo, FedSome, FedCut, Stopped, Whole}
use Rattle.run_script.proofs.Saying.{fed_none, fed_more}
use Rattle.run_script.proofs.Fitting.{answer_fits}

-- a fact stands beside a result, whichever it is
pub at_ok : {T E P : Type 0} (r : Result T E) → P → OnOk r P
at_ok (Ok x) p = p
at_ok (Err e) p = tt

pub at_error : {T E P : Type 0} (r : Result T E) → P → OnErr r P
at_error (Ok x) p = tt
at_error (Err e) p = p

-- a line's answer stands in the buffer, whether it could be written out or not
pub answered_here : (c c' : Classes) (ms ms' line out out' : List ℕ) (p : Place) (r : Reply) (n number : ℕ) (bad : Bool) → (c', ms', r) ≡ replied c ms line p.used → (out', n) ≡ wrote (out, p.filled) (line_text ms' p.line r) →
    InRange r → p.line < 18446744073709551616 → bad ≡ is_bad r → number ≡ (p.line + 1) % 18446744073709551616 → full < n → (q : Place) × (w : Answered c c' ms ms' line out out' p q) × (full < w.end)
answered_here c c' ms ms' line out out' p r n number bad e w i l b m f = (
  record { used = 0; line = number; filled = spared n; goes = not bad },
  record {
    answer = r;
    end = n;
    replies = e;
    answers = w;
    whole = answer_fits c c' ms ms' line p.used p.line r e i l p.filled out;
    filled = refl;
    used = refl;
    goes = ap not b;
    number = m;
  },
  f,
)

-- an LF whose answer could not be written out
pub unwritten_here : {E : Type 0} (a : Result Place E) (c c' : Classes) (ms ms' line out out' : List ℕ) (p : Place) (b : ℕ) → b ≡ lf → OnErr a ((q : Place) × (w : Answered c c' ms ms' line out out' p q) × (full < w.end)) →
    OnErr a ((q : Place) × Unwritten b (stand c ms line out p) (stand c' ms' line out' q))
unwritten_here (Ok x) c c' ms ms' line out out' p b e h = tt
unwritten_here (Err x) c c' ms ms' line out out' p b e h = (h.0, record { took = record { ended = λ _. (h.1, refl); held = λ n. absurd (n e) }; ends = e; past = h.2 })

-- of a chunk's bytes the last that was taken ended a line
pub fed_cut : (bytes : List ℕ) (i : ℕ) (s t : Standing) (c : Classes) (ms line out : List ℕ) → IsFedTo bytes i s t → i < length bytes → t.place.goes ≡ true →
    ((q : Place) × Took (get_or bytes i 0) t (stand c ms line out q)) → (q : Place) × FedSome bytes s (stand c ms line out q)
fed_cut bytes i s t c ms line out F h g w = (w.0, record { many = i + 1; within = omega arith; to = fed_more bytes i s t (stand c ms line out w.0) F g w.1 })

-- and that line's answer could not be written out
pub fed_to_cut : (bytes : List ℕ) (i : ℕ) (s t : Standing) (c : Classes) (ms line out : List ℕ) → IsFedTo bytes i s t → i < length bytes → t.place.goes ≡ true →
    ((q : Place) × Unwritten (get_or bytes i 0) t (stand c ms line out q)) → (q : Place) × FedCut bytes s (stand c ms line out q)
fed_to_cut bytes i s t c ms line out F h g w = (w.0, record { many = i; before = t; within = h; to = F; goes = g; last = w.1 })

-- no byte came
pub none_came : (c : Classes) (ms line out : List ℕ) (p : Place) → (q : Place) × (chunk : List ℕ) × FedSome chunk (stand c ms line out p) (stand c ms line out q)
none_came c ms line out p = (p, [], record { many = 0; within = omega arith; to = fed_none [] (stand c ms line out p) })

-- before the script's end
pub stopped_script : (c c' : Classes) (ms line out ms' line' out' : List ℕ) → c ≡ no_classes → ((q : Place) × Stopped (stand c ms line out first_place) (stand c' ms' line' out' q)) →
    ((q : Place) × Stopped (stand no_classes ms line out first_place) (stand c' ms' line' out' q)) ⊎ Whole ms line out c' ms' line' out'
stopped_script c c' ms line out ms' line' out' e w = inl (subst (λ (x : Classes). (q : Place) × Stopped (stand x ms line out first_place) (stand c' ms' line' out' q)) e w)

pub unwritten_script : (c' : Classes) (ms line out ms' line' out' : List ℕ) → Whole ms line out c' ms' line' out' →
    ((q : Place) × Stopped (stand no_classes ms line out first_place) (stand c' ms' line' out' q)) ⊎ Whole ms line out c' ms' line' out'
unwritten_script c' ms line out ms' line' out' w = inr w
