-- Worked examples of the definitions.
use Rattle.std.proofs.Common.{◌≡◌, pos, negsuc, Some, None, codes, refl}
use Rattle.number.specs.Decimals.{magnitude_of, signed_of, read_decimal}
use Rattle.number.specs.Texts.{whole_text, fixed, shortened, setting_text, position_text}
use Rattle.number.specs.Writing.{write}

minus_ten : read_decimal (codes "-10") ≡ Some (negsuc 9999999)
unfolding signed_of magnitude_of
minus_ten = refl

half : read_decimal (codes ".5") ≡ Some (pos 500000)
unfolding signed_of magnitude_of
half = refl

bare_point : read_decimal (codes "-.") ≡ None
unfolding signed_of magnitude_of
bare_point = refl

largest : read_decimal (codes "+999999999.999999") ≡ Some (pos 999999999999999)
unfolding signed_of magnitude_of
largest = refl

three : setting_text (negsuc 2999999) ≡ codes "-3"
unfolding setting_text shortened fixed whole_text
three = refl

smallest : setting_text (negsuc 9223372036854775807) ≡ codes "-9223372036854.775808"
unfolding setting_text shortened fixed whole_text
smallest = refl

rounded_up : position_text 4 (pos 5000050) ≡ codes "5.0001"
unfolding position_text fixed whole_text
rounded_up = refl

rounded_down : position_text 2 (pos 5000050) ≡ codes "5.00"
unfolding position_text fixed whole_text
rounded_down = refl

no_minus : position_text 4 (negsuc 3) ≡ codes "0.0000"
unfolding position_text fixed whole_text
no_minus = refl

no_point : position_text 0 (negsuc 499999) ≡ codes "-1"
unfolding position_text fixed whole_text
no_point = refl

cut : write (codes "abcd") 2 (codes "xyz") ≡ (4, codes "abxy")
unfolding write
cut = refl
