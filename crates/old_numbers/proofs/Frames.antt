-- [3]: the findings of every sheet, with the old numbers put in, are what 01 answered before.
use Rattle.std.specs.Prelude.{◌≡◌, refl, List, [], ◌∷◌, ◌++◌, map, ℕ}
use Rattle.std.proofs.Common.{sym, ap}
use Rattle.paper.specs.declared.Refusal.{Refusal}
use Rattle.paper.specs.declared.Refusal.TheVariants.{Layout, Unknown, Itself, Unreachable, Hanging, Endless, TooManySites, TooManySources, TooManyFields, TooManyRules, TooManyItems, TooManyConstrained, TooManyEqual, TooManySets, TermTooHigh, UnfoldingTooLong, PlaceUsed, Repeated}
use Rattle.paper.specs.Words.{joined, four}
use Rattle.paper.specs.Numbers.{number}
use Rattle.paper.specs.Rules.{Listed, overlap, mask}
use Rattle.paper.specs.Layout.{lines, hex}
use Rattle.paper.specs.Sheets.{Ended, start, refusal_found, listed_found, term_found, end_found, stop_found}
use Rattle.old_numbers.specs.Before.{number_before, old_number, old_last, old_frame, refusal_by, stop_by, read_by, findings_before}
use Rattle.old_numbers.specs.Renumbered.{Renumbers, read_same}
use Rattle.old_numbers.specs.Old.{found_in}

old_numbered : (r : Refusal) → old_number (number r) ≡ number_before r
unfolding old_number number number_before
old_numbered (Layout line) = refl
old_numbered (Unknown site) = refl
old_numbered (Itself site) = refl
old_numbered (Unreachable site other) = refl
old_numbered (Hanging site) = refl
old_numbered (Endless site) = refl
old_numbered (TooManySites asked at) = refl
old_numbered (TooManySources asked at) = refl
old_numbered (TooManyFields asked at) = refl
old_numbered (TooManyRules asked) = refl
old_numbered (TooManyItems asked) = refl
old_numbered (TooManyConstrained asked) = refl
old_numbered (TooManyEqual asked) = refl
old_numbered (TooManySets asked) = refl
old_numbered (TermTooHigh asked) = refl
old_numbered (UnfoldingTooLong asked) = refl
old_numbered (PlaceUsed place) = refl
old_numbered (Repeated line) = refl

-- ---- the frames

refusal_old : (place : ℕ) (r : Refusal) → old_frame (refusal_found place r) ≡ refusal_by number_before place r
unfolding old_frame old_last refusal_found refusal_by four
refusal_old place r = ap (λ n. 17 ∷ (four place ++ (n ∷ []))) (old_numbered r)

stop_old : (at : ℕ) (r : Refusal) → old_frame (stop_found at r) ≡ stop_by number_before at r
unfolding old_frame old_last stop_found stop_by four
stop_old at r = ap (λ n. 31 ∷ (four at ++ (n ∷ []))) (old_numbered r)

listed_old : (l : Listed) → old_frame (listed_found l) ≡ listed_found l
unfolding old_frame listed_found
listed_old (overlap p ns) = refl
listed_old (mask p ns) = refl

term_old : (t : ℕ) → old_frame (term_found t) ≡ term_found t
unfolding old_frame term_found
term_old t = refl

end_old : (e : Ended) → old_frame (end_found e) ≡ end_found e
unfolding old_frame end_found
end_old e = refl

before : Renumbers number_before old_frame
before = record { refusal = refusal_old; stop = stop_old; listed = listed_old; term = term_old; end = end_old }

-- ---- the findings of every sheet

pub found_before : (sheet : List ℕ) → map old_frame (found_in sheet) ≡ read_by number_before start 1 (lines sheet)
found_before sheet = sym (read_same number_before old_frame before start 1 (lines sheet))

-- as lines: "put 07 for 14 to 1D in the last byte of 11 and 1F, and get the old findings"
pub findings_old : (sheet : List ℕ) → joined (map hex (map old_frame (found_in sheet))) ≡ findings_before sheet
unfolding findings_before
findings_old sheet = ap (λ z. joined (map hex z)) (found_before sheet)
