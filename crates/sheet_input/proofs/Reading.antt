-- What a buffer begins with, once more was read into the part behind what stood there.
use Rattle.std.proofs.Common.{◌≡◌, ℕ, ◌+◌, ◌≤◌, List, ◌++◌, length, take, sym, ap, ◌∙◌, length-take-le}
use Rattle.std.proofs.Math.Seq.{take-append-add}
use Rattle.std.proofs.lemmas.List.{take-append-le}
use borrow.Rule.Slice.PartMut.{put_mid, post_of}

pub read_behind : (end more room : ℕ) (old new : List ℕ) → end ≤ length old → more ≤ length new
    → take (end + more) (put_mid end room old new) ≡ take end old ++ take more new
read_behind end more room old new within fits =
    ap (λ (i : ℕ). take (i + more) (put_mid end room old new)) (sym (length-take-le end old within))
    ∙ take-append-add (take end old) (new ++ post_of end room old) more
    ∙ ap (λ (l : List ℕ). take end old ++ l) (take-append-le more new (post_of end room old) fits)
