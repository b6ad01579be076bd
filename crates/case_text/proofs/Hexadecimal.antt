-- A byte that is written as two digits, and one byte more.
use Rattle.std.proofs.Common.{arith, ◌≡◌, ℕ, suc, ◌+◌, ◌<◌, List, [], ◌∷◌, ◌++◌, false, Some, length, take, get_or, ap, ◌∙◌, append-nil}
use Rattle.std.proofs.Math.Seq.{take-suc}
use Rattle.std.proofs.lemmas.Fmt.{hex_byte}
use Rattle.std.proofs.lemmas.Grind.{flat_map-append}
use Rattle.std.specs.Fmt.{digits, digits_output, styled_digits_output, format_spec, padded_integral}
use Rattle.std.specs.Option.{option_map}
use Rattle.case_text.specs.Hexadecimal.{two_digits, hexadecimal}

pub styled_byte : (d : _) (s : _) (byte : ℕ) → digits_output d ≡ Some (digits 16 false byte)
    → s ≡ format_spec 32 0 4 2 18446744073709551615 → byte < 256 → styled_digits_output d s ≡ Some (two_digits byte)
styled_byte d s byte shown laid fits =
    ap (styled_digits_output d) laid
    ∙ ap (option_map (padded_integral (format_spec 32 0 4 2 18446744073709551615) false [])) shown
    ∙ ap Some (hex_byte false byte fits)

pub one_more : (bytes : List ℕ) (i : ℕ) → i < length bytes
    → hexadecimal (take (i + 1) bytes) ≡ hexadecimal (take i bytes) ++ two_digits (get_or bytes i 0)
one_more bytes i within =
    let next : i + 1 ≡ suc i = omega arith in
    ap (λ (n : ℕ). hexadecimal (take n bytes)) next
    ∙ ap hexadecimal (take-suc bytes i 0 within)
    ∙ flat_map-append two_digits (take i bytes) (get_or bytes i 0 ∷ [])
    ∙ ap (λ (l : List ℕ). hexadecimal (take i bytes) ++ l) (append-nil (two_digits (get_or bytes i 0)))
