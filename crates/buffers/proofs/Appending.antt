-- How code appends to a lent buffer: runs of writes, and what a loop of writes has left to write. Assumes nothing.
use mathlib.Core.Path.{◌≡◌, refl, sym, ap, ◌∙◌}
use mathlib.Core.List.{List, [], ◌∷◌, ◌++◌}
use Prim.Native.Nat.{ℕ, ◌+◌, ◌-◌, ◌≤◌, ◌<◌}
use native.Mathlib.Omega.{arith}
use lib.ListN.{length, take, drop, set, length-append}
use Rattle.buffers.specs.Overwrite.{overwrite, Wrote}
use Rattle.buffers.proofs.Overwrite.{overwrite_nil, overwrite_all, overwrite_part, overwrite_length, overwrite_twice, set_overwrite, take_overwrite}

module _ {A : Type 0} where
  -- All of `all` is to be written over l from `at` on, and there is room: l is now m, and rest is still to be written from p on.
  pub record Left (at : ℕ) (all l : List A) (p : ℕ) (rest m : List A) : Type 0 where
    pub room : at + length all ≤ length l
    pub long : length m ≡ length l
    pub next : p + length rest ≡ at + length all
    pub now_is : overwrite p rest m ≡ overwrite at all l

  -- nothing is written
  pub wrote_none : (at : ℕ) (l : List A) → Wrote at [] l at l
  wrote_none at l = record { next = omega arith; now_is = sym (overwrite_nil at l) }

  -- one store
  pub wrote_set : (at : ℕ) (v : A) (l : List A) → at < length l → Wrote at (v ∷ []) l (at + 1) (set l at v)
  wrote_set at v l h = record { next = refl; now_is = set_overwrite at v l h }

  -- a part `&mut s[at..p]` comes back with new in it
  pub wrote_part : (at k : ℕ) {new l : List A} {p : ℕ} {m : List A} → length new ≡ k → p ≡ at + k → m ≡ new
      → Wrote at new l p (take at l ++ (m ++ drop k (drop at l)))
  wrote_part at k {new} {l} e next is = record { next = omega arith; now_is = rw is (overwrite_part at k l new e) }

  -- two runs of writes are one
  pub wrote_append : {at : ℕ} {a b l : List A} {p q : ℕ} {m k : List A} → at + length a ≤ length l → Wrote at a l p m
      → Wrote p b m q k → Wrote at (a ++ b) l q k
  wrote_append {at} {a} {b} {l} h u v =
      record {
        next = omega (arith, length-append a b);
        now_is = cc (overwrite_twice at a b l h);
      }

  pub left_start : (at : ℕ) (all l : List A) → at + length all ≤ length l → Left at all l at all l
  left_start at all l h = record { room = h; long = refl; next = refl; now_is = refl }

  -- what comes next has room
  pub left_fits : {at : ℕ} {all l : List A} {p : ℕ} {m rest₀ : List A} (new rest : List A) → rest₀ ≡ new ++ rest
      → Left at all l p rest₀ m → p + length new ≤ length m
  left_fits new rest e h = omega (arith, ap length e, length-append new rest)

  -- it is written
  pub left_take : {at : ℕ} {all l : List A} {p : ℕ} {m rest₀ new rest : List A} {q : ℕ} {k : List A} → rest₀ ≡ new ++ rest
      → Left at all l p rest₀ m → Wrote p new m q k → Left at all l q rest k
  left_take {at} {all} {l} {p} {m} {rest₀} {new} {rest} {q} {k} e h w =
      let fits : p + length new ≤ length m = left_fits new rest e h in
      record {
        room = h.room;
        long = ap length w.now_is ∙ overwrite_length p new m fits ∙ h.long;
        next = omega (arith, ap length e, length-append new rest);
        now_is = cc (overwrite_twice p new rest m fits);
      }

  -- all is written
  pub left_done : {at : ℕ} {all l : List A} {p : ℕ} {m rest₀ : List A} → rest₀ ≡ [] → Left at all l p rest₀ m → Wrote at all l p m
  left_done {p = p} {m = m} e h = record { next = omega (arith, ap length e); now_is = cc (overwrite_nil p m) }

  -- all of a part is written over
  pub left_whole : {all l : List A} {p : ℕ} {m rest₀ : List A} → length all ≡ length l → rest₀ ≡ [] → Left 0 all l p rest₀ m → m ≡ all
  left_whole {all} {l} e f h = (left_done f h).now_is ∙ overwrite_all all l e

  -- `left_take` and `left_done` where the rest is taken apart already
  pub left_step : {at : ℕ} {all l : List A} {p : ℕ} {m : List A} (new rest : List A) {q : ℕ} {k : List A}
      → Left at all l p (new ++ rest) m → Wrote p new m q k → Left at all l q rest k
  left_step new rest = left_take refl

  pub left_end : {at : ℕ} {all l : List A} {p : ℕ} {m : List A} → Left at all l p [] m → Wrote at all l p m
  left_end = left_done refl

  -- the last piece has room, and with it all is written
  pub left_room : {at : ℕ} {all l : List A} {p : ℕ} {rest m : List A} → Left at all l p rest m → p + length rest ≤ length m
  left_room h = omega arith

  pub left_last : {at : ℕ} {all l : List A} {p : ℕ} {rest m : List A} {q : ℕ} {k : List A} → Left at all l p rest m → Wrote p rest m q k
      → Wrote at all l q k
  left_last h w = record { next = omega arith; now_is = w.now_is ∙ h.now_is }

  -- what was written from the start of a buffer stands there
  pub wrote_taken : {new l : List A} {p : ℕ} {m : List A} → length new ≤ length l → Wrote 0 new l p m → take (p - 0) m ≡ new
  wrote_taken {new} {l} {p} {m} room w =
      let e : p - 0 ≡ 0 + length new = omega arith in
      rw (e, w.now_is) (take_overwrite 0 new l (omega arith))
