-- Document 01's example, byte by byte ("The programs").
use Rattle.std.specs.Prelude.{List, [], ◌∷◌, ◌++◌, ℕ, replicate}

-- Block 0 starts 41 52 58 54 02 01 01 00 01 (hexadecimal), zeros, check 44 53 59 54;
-- block 1 holds 06, seven zeros, 01 00 00 00 03 00 00 00, zeros, check 0B 00 00 00.
unfoldable pub example_sheet : List ℕ
example_sheet =
    (0x41 ∷ 0x52 ∷ 0x58 ∷ 0x54 ∷ 0x02 ∷ 0x01 ∷ 0x01 ∷ 0x00 ∷ 0x01 ∷ [])
    ++ (replicate 499 0
    ++ ((0x44 ∷ 0x53 ∷ 0x59 ∷ 0x54 ∷ [])
    ++ ((0x06 ∷ [])
    ++ (replicate 7 0
    ++ ((0x01 ∷ 0x00 ∷ 0x00 ∷ 0x00 ∷ 0x03 ∷ 0x00 ∷ 0x00 ∷ 0x00 ∷ [])
    ++ (replicate 492 0
    ++ (0x0B ∷ 0x00 ∷ 0x00 ∷ 0x00 ∷ [])))))))
