-- Let a number N be a product over chains: N * 2 ^ (H + the sum of the K) = 2 ^ n * the product of the p. Then the weight, q for
-- each of H and q K - A p for each chain, is q n less the logarithm of N, in units of 1 / q bit and to within e units for each
-- chain. That holds for any q and e, and any A that is the logarithm of p to within e units.
use mathlib.Core.Path.{◌≡◌, sym, ap, subst, ◌∙◌}
use mathlib.Core.Bool.{Bool, true, false, cond}
use Prim.Native.Nat.{ℕ, ◌+◌, ◌-◌, ◌*◌, ◌^◌, ◌<◌, ◌≤◌}
use native.Mathlib.Nat.{add-zero, mul-add, mul_assoc, mul_comm, mul-one, mul-zero}
use native.Mathlib.Nat.{le_of_eq, le_of_mul-le-mul_right, le_trans, mul-le-mul_left, pow-le-pow_left}
use native.Mathlib.Omega.{arith}
use lib.Pow.{pow-add, pow_pos}
use Rattle.words.specs.Words.{value}
use Rattle.words.specs.Below.{count, total}
use Rattle.words.proofs.Below.{total_add, total_cong, total_mul}
use Rattle.words.proofs.LowBits.{count_total}
use Rattle.differential.specs.Product.{product}
use Rattle.differential.proofs.Powers.{exponent_le, mul_pow, one_pow, pow_mul}
use Rattle.differential.proofs.Powers.{product_le, product_pow, pow_total}

-- w is q n less the logarithm of N, in units of 1 / q bit, to within s units
pub record Bounded (q n N w s : ℕ) : Type 0 where
  pub most : w ≤ q * n
  pub low : 2 ^ (q * n - w) ≤ N ^ q
  pub high : N ^ q ≤ 2 ^ (q * n - w + s)

module _ (q e : ℕ) (A : ℕ → ℕ)
    (A-low : (p : ℕ) → 0 < p → 2 ^ A p ≤ p ^ q) (A-high : (p : ℕ) → 0 < p → p ^ q ≤ 2 ^ (A p + e)) where
  power_of : (k : ℕ) → (2 ^ k) ^ q ≡ 2 ^ (q * k)
  power_of k = sym (pow_mul 2 k q) ∙ ap (λ (z : ℕ). 2 ^ z) (mul_comm k q)

  -- 1, which stands where there is no chain, costs nothing
  A-one : A 1 ≡ 0
  A-one = omega (arith, exponent_le (A 1) 0 (le_trans (A-low 1 (omega arith)) (le_of_eq (one_pow q))))

  pub A-le : (p k : ℕ) → 0 < p → p ≤ 2 ^ k → A p ≤ q * k
  A-le p k some l =
      exponent_le (A p) (q * k) (le_trans (A-low p some) (le_trans (pow-le-pow_left l q) (le_of_eq (power_of k))))

  module _ (n : ℕ) (chain : ℕ → Bool) (K P : ℕ → ℕ) where
    -- K and p of a chain, and what it costs; elsewhere 0, 1 and 0
    abbrev k : ℕ → ℕ
    k i = cond (chain i) (K i) 0

    abbrev p : ℕ → ℕ
    p i = cond (chain i) (P i) 1

    abbrev cost : ℕ → ℕ
    cost i = cond (chain i) (q * K i - A (P i)) 0

    abbrev logs : ℕ → ℕ
    logs i = A (p i)

    module _ (p-pos : (i : ℕ) → i < n → 0 < p i) (P-le : (i : ℕ) → P i ≤ 2 ^ K i) where
      costs : total n cost + total n logs ≡ q * total n k
      costs =
          sym (total_add n cost logs)
          ∙ total_cong n (λ i. cost i + logs i) (λ i. q * k i) (λ i l. at i (chain i) (p-pos i l))
          ∙ total_mul n q k
        where
          at : (i : ℕ) (t : Bool) → 0 < cond t (P i) 1
              → cond t (q * K i - A (P i)) 0 + A (cond t (P i) 1) ≡ q * cond t (K i) 0
          at i true h = omega (arith, A-le (P i) (K i) h (P-le i))
          at i false h = omega (arith, A-one, mul-zero q)

      product_low : 2 ^ total n logs ≤ product n p ^ q
      product_low =
          le_trans (le_of_eq (pow_total n logs))
          (le_trans (product_le n (λ i. 2 ^ logs i) (λ i. p i ^ q) (λ i l. A-low (p i) (p-pos i l)))
          (le_of_eq (sym (product_pow n p q))))

      product_high : product n p ^ q ≤ 2 ^ (total n logs + e * count n chain)
      product_high =
          le_trans (le_of_eq (product_pow n p q))
          (le_trans (product_le n (λ i. p i ^ q) (λ i. 2 ^ (logs i + slack i)) (λ i l. at i (chain i) (p-pos i l)))
          (le_of_eq (sym (pow_total n (λ i. logs i + slack i)) ∙ ap (λ (z : ℕ). 2 ^ z) sums)))
        where
          slack : ℕ → ℕ
          slack i = e * value (chain i)

          at : (i : ℕ) (t : Bool) → 0 < cond t (P i) 1 → cond t (P i) 1 ^ q ≤ 2 ^ (A (cond t (P i) 1) + e * value t)
          at i true h = rw (mul-one e) (A-high (P i) h)
          at i false h = le_trans (le_of_eq (one_pow q)) (pow_pos (A 1 + e * 0))

          sums : total n (λ i. logs i + slack i) ≡ total n logs + e * count n chain
          sums =
              total_add n logs slack
              ∙ ap (λ (z : ℕ). total n logs + z)
              (total_mul n e (λ i. value (chain i)) ∙ ap (λ (z : ℕ). e * z) (sym (count_total n chain)))

      module _ (N H : ℕ) (law : N * 2 ^ (H + total n k) ≡ 2 ^ n * product n p) (room : H + total n k ≤ n) where
        abbrev w : ℕ
        w = q * H + total n cost

        weight_most : w ≤ q * n
        weight_most = omega (arith, costs, mul-add q H (total n k), mul-le-mul_left q room)

        -- the product law to the power of q, with q (H + the sum of the K) as the weight and the logarithms
        scaled : N ^ q * 2 ^ w * 2 ^ total n logs ≡ 2 ^ (q * n) * product n p ^ q
        scaled =
            mul_assoc (N ^ q) (2 ^ w) (2 ^ total n logs)
            ∙ ap (λ (z : ℕ). N ^ q * z)
            (sym (pow-add 2 w (total n logs)) ∙ ap (λ (z : ℕ). 2 ^ z) whole ∙ sym (power_of (H + total n k)))
            ∙ sym (mul_pow N (2 ^ (H + total n k)) q)
            ∙ ap (λ (z : ℕ). z ^ q) law
            ∙ mul_pow (2 ^ n) (product n p) q
            ∙ ap (λ (z : ℕ). z * product n p ^ q) (power_of n)
          where
            whole : w + total n logs ≡ q * (H + total n k)
            whole = omega (arith, costs, mul-add q H (total n k))

        -- the two bounds, times the powers of two that stand beside N ^ q there
        spread : (x : ℕ) → 2 ^ (q * n - w + x) * 2 ^ w * 2 ^ total n logs ≡ 2 ^ (q * n) * 2 ^ (total n logs + x)
        spread x =
            ap (λ (z : ℕ). z * 2 ^ total n logs) (sym (pow-add 2 (q * n - w + x) w))
            ∙ sym (pow-add 2 (q * n - w + x + w) (total n logs))
            ∙ ap (λ (z : ℕ). 2 ^ z) same
            ∙ pow-add 2 (q * n) (total n logs + x)
          where
            same : q * n - w + x + w + total n logs ≡ q * n + (total n logs + x)
            same = omega (arith, weight_most)

        cancel : {x y : ℕ} → x * 2 ^ w * 2 ^ total n logs ≤ y * 2 ^ w * 2 ^ total n logs → x ≤ y
        cancel l = le_of_mul-le-mul_right (le_of_mul-le-mul_right l (pow_pos (total n logs))) (pow_pos w)

        weight_low : 2 ^ (q * n - w) ≤ N ^ q
        weight_low =
            subst (λ (z : ℕ). 2 ^ z ≤ N ^ q) (add-zero (q * n - w))
            (cancel
            (le_trans (le_of_eq (spread 0))
            (le_trans (mul-le-mul_left (2 ^ (q * n)) (rw (add-zero (total n logs)) product_low))
            (le_of_eq (sym scaled)))))

        weight_high : N ^ q ≤ 2 ^ (q * n - w + e * count n chain)
        weight_high =
            cancel
            (le_trans (le_of_eq scaled)
            (le_trans (mul-le-mul_left (2 ^ (q * n)) product_high)
            (le_of_eq (sym (spread (e * count n chain))))))

        pub bounded : Bounded q n N w (e * count n chain)
        bounded = record { most = weight_most; low = weight_low; high = weight_high }
