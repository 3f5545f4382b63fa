-- Some lines, computed.
use Rattle.std.specs.Prelude.{◌≡◌, refl, [], ◌∷◌}
use Rattle.paper.specs.declared.Constraint.TheVariants.{ConstInt}
use Rattle.paper.specs.declared.Refusal.TheVariants.{Unreachable, TooManyRules}
use Rattle.paper.specs.Words.{all_words}
use Rattle.paper.specs.Numbers.{all_numbers}
use Rattle.paper.specs.Sites.{argument, all_sites}
use Rattle.paper.specs.Rules.{total}
use Rattle.paper.specs.Layout.{digit_of}
use Rattle.paper.specs.Text.{text, sheet}
use Rattle.sheet_digits.specs.Digits.{digits_of}
use Rattle.tell_text.specs.Decimal.{decimal, digits}
use Rattle.tell_kept.specs.Listed.{site_text, c_line, c_lines, member_text, members, class_line, classes, head_text, total_line, kept_lines, told_text, refused_line, set_line, terms_text, cyclic_line}

unfoldable all_listed : Unit {0}
unfolding all_words all_numbers all_sites total digit_of digits_of decimal digits site_text c_line c_lines member_text members class_line classes head_text total_line kept_lines told_text refused_line set_line terms_text cyclic_line
all_listed = tt

a_set : set_line 7 2 ≡ text "set 0007 02"
unfolding all_listed
a_set = refl

a_refused_rule : refused_line 50 0 (Unreachable 1 0) ≡ text "rule 00000032 0000000000000000 refused 4 1 0"
unfolding all_listed
a_refused_rule = refl

one_too_many : refused_line 1 18446744073709551615 (TooManyRules 65) ≡ text "rule 00000001 FFFFFFFFFFFFFFFF refused 23 65"
unfolding all_listed
one_too_many = refl

two_circles : cyclic_line (7 ∷ 8 ∷ []) ≡ text "cyclic 0007 0008"
unfolding all_listed
two_circles = refl

a-kept-rule :
    kept_lines (argument 0 ∷ argument 1 ∷ argument 2 ∷ [])
    (record { place = 10; priority = 1; constraints = (0, ConstInt 3 0 5) ∷ []; equals = (1, 1) ∷ (2, 1) ∷ [] })
    ≡ sheet ("rule 0000000A 0000000000000001 kept" ∷ " c 0300 03000300000000000000000000000000000005" ∷ " e 0301 0302" ∷ " total 3" ∷ [])
unfolding all_listed
a-kept-rule = refl
