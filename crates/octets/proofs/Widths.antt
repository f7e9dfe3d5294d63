-- The laws of `bytes_of` and `value`, once for every width.
use Rattle.std.proofs.Common.{◌≡◌, ℕ, zero, suc, ◌+◌, ◌*◌, ◌%◌, ◌^◌, ◌<◌, List, [], ◌∷◌, length, sym, refl, ap, ◌∙◌, add_assoc, mod-eq_of_lt, zero-lt-suc, mul_assoc, mul_comm, add-mul, pow-suc, zero-add, arith}
use native.Mathlib.Nat.{one-le-pow, mod-one}
use lib.Arith.{digits_lt, digits_div, digits_mod, mod-mul}
use Rattle.std.specs.List.{AllByRecursion as All}
use Rattle.octets.specs.Numbers.{bytes_of, value}
use Rattle.octets.specs.Lengths.{length_bytes_of}

base_pos : (w : ℕ) → 0 < 256 ^ w
base_pos w = one-le-pow w 256 (zero-lt-suc 255)

pub value_lt : (bs : List ℕ) → All (λ b. b < 256) bs → value bs < 256 ^ length bs
unfolding bytes_of value
value_lt [] h = omega arith
value_lt (b ∷ bs) h =
    rw (pow-suc 256 (length bs), mul_comm (256 ^ length bs) 256) (digits_lt h.0 (value_lt bs h.1))

-- what n holds above the width does not show
value_bytes_of_mod : (w n : ℕ) → value (bytes_of w n) ≡ n % 256 ^ w
unfolding bytes_of value
value_bytes_of_mod zero n = sym (mod-one n)
value_bytes_of_mod (suc w) n =
    rw (length_bytes_of w n, value_bytes_of_mod w n, pow-suc 256 w, mul_comm (256 ^ w) 256)
    (sym (mod-mul n (zero-lt-suc 255) (base_pos w)))

pub value_bytes_of : (w n : ℕ) → n < 256 ^ w → value (bytes_of w n) ≡ n
value_bytes_of w n h = value_bytes_of_mod w n ∙ mod-eq_of_lt h

bytes_of_above : (q : ℕ) (bs : List ℕ) → All (λ b. b < 256) bs → bytes_of (length bs) (q * 256 ^ length bs + value bs) ≡ bs
unfolding bytes_of value
bytes_of_above q [] h = refl
bytes_of_above q (b ∷ bs) h =
    let p : ℕ = 256 ^ length bs in
    let v : ℕ = value bs in
    let e : q * 256 ^ suc (length bs) + (b * p + v) ≡ (q * 256 + b) * p + v =
    rw (pow-suc 256 (length bs), mul_comm p 256, ← mul_assoc q 256 p, add-mul (q * 256) b p) (sym (add_assoc (q * 256 * p) (b * p) v)) in
    rw (e, digits_div (q * 256 + b) (value_lt bs h.1), digits_mod q h.0, bytes_of_above (q * 256 + b) bs h.1)

-- bytes are the bytes of the number that they write
pub bytes_of_value : (bs : List ℕ) → All (λ b. b < 256) bs → bytes_of (length bs) (value bs) ≡ bs
bytes_of_value bs h = ap (bytes_of (length bs)) (sym (zero-add (value bs)) ∙ ap (λ (x : ℕ). x + value bs) (omega arith)) ∙ bytes_of_above 0 bs h
