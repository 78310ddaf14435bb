-- The bits of bytes: one law from a number's bytes to its bits, and how the first bits compare as numbers.
use Prim.Native.Nat.{ℕ, zero, suc, ◌+◌, ◌*◌, ◌-◌, ◌/◌, ◌%◌, ◌^◌, ◌≤◌, ◌<◌, min}
use native.Mathlib.Nat.{mod-eq_of_lt, mod-mod, zero-mod, pow-suc}
use native.Mathlib.Omega.{arith}
use mathlib.Core.Path.{◌≡◌, refl, sym, ◌∙◌, ap}
use mathlib.Core.List.{List, [], ◌∷◌, ◌++◌, append_assoc}
use lib.Dec.{eqb, lit<}
use lib.ListN.{length, take, length-append}
use lib.Pow.{pow-add, shr_lt}
use borrow.Author.Tests.{eqb-true, eq-eqb}
use Rattle.octets.specs.Runs.{same, all_zero}
use Rattle.octets.specs.Digits.{digits, number, bits}
use Rattle.octets.proofs.Laws.Tests.{alike}
use Rattle.octets.proofs.Laws.Runs.{same_true, eq_same, all_zero-same, take_min}
use Rattle.octets.proofs.Laws.Digits.{length_digits, number_digits, digits-alike, digits_append, digits_zero, take-digits}

-- two numbers have the same lowest digits exactly if their remainders are equal
pub same_digits : (b : ℕ) (some : 0 < b) (w m n : ℕ) → same (digits b w m) (digits b w n) ≡ eqb (m % b ^ w) (n % b ^ w)
same_digits b some w m n =
    alike _ _
    (λ t. eq-eqb (m % b ^ w) (n % b ^ w) (sym (number_digits b some w m) ∙ ap (number b) (same_true (digits b w m) (digits b w n) t) ∙ number_digits b some w n))
    (λ t. eq_same (digits b w m) (digits b w n) (digits-alike b some w m n (eqb-true (m % b ^ w) (n % b ^ w) t)))

pub all_zero-digits : (b : ℕ) (some : 0 < b) (w n : ℕ) → all_zero (digits b w n) ≡ eqb (n % b ^ w) 0
all_zero-digits b some w n =
    rw (all_zero-same (digits b w n), length_digits b some w n, ← digits_zero b some w, same_digits b some w n 0, zero-mod (b ^ w))

two : 0 < 2
two = lit< tt

-- the first n digits of a number in base 2 are a number too; of more than it has, all
pub same_first : (n w x y : ℕ) → x < 2 ^ w → y < 2 ^ w → same (take n (digits 2 w x)) (take n (digits 2 w y)) ≡ eqb (x / 2 ^ (w - n)) (y / 2 ^ (w - n))
same_first n w x y h j =
    let k = min n w in
    let few : k ≤ w = omega arith in
    let less : w - k ≡ w - n = omega arith in
    let whole : k + (w - k) ≡ w = omega arith in
    let cut : (z : ℕ) → take n (digits 2 w z) ≡ digits 2 k (z / 2 ^ (w - n)) =
    λ z. sym (take_min n w (digits 2 w z) (rw (length_digits 2 two w z) (omega arith))) ∙ take-digits 2 two k w z few ∙ rw less in
    let small : (z : ℕ) → z < 2 ^ w → z / 2 ^ (w - n) % 2 ^ k ≡ z / 2 ^ (w - n) =
    λ z s. mod-eq_of_lt (rw less at (shr_lt {n = z} k (w - k) (rw whole s))) in
    rw (cut x, cut y, same_digits 2 two k (x / 2 ^ (w - n)) (y / 2 ^ (w - n)), small x h, small y j)

pub bits-append : (s t : List ℕ) → bits (s ++ t) ≡ bits s ++ bits t
unfolding bits
bits-append [] t = refl
bits-append (x ∷ s) t = rw (bits-append s t) (sym (append_assoc (digits 2 8 x) (bits s) (bits t)))

byte_power : (w : ℕ) → 2 ^ (8 * w) ≡ 256 ^ w
byte_power zero = refl
byte_power (suc w) =
    let on : 8 * suc w ≡ 8 * w + 8 = omega arith in
    rw (on, pow-add 2 (8 * w) 8, byte_power w, pow-suc 256 w)

next_byte : (w n : ℕ) → digits 2 (8 * suc w) n ≡ digits 2 8 (n / 256 ^ w % 256) ++ digits 2 (8 * w) n
next_byte w n =
    let on : 8 * suc w ≡ 8 + 8 * w = omega arith in
    rw (on, digits_append 2 two 8 (8 * w) n, byte_power w, digits-alike 2 two 8 (n / 256 ^ w % 256) (n / 256 ^ w) (mod-mod (n / 256 ^ w) 256))

-- the bits of a number's bytes are its digits in base 2
pub bits-digits : (w n : ℕ) → bits (digits 256 w n) ≡ digits 2 (8 * w) n
unfolding bits digits
bits-digits zero n = refl
bits-digits (suc w) n = ap (λ (l : List ℕ). digits 2 8 (n / 256 ^ w % 256) ++ l) (bits-digits w n) ∙ sym (next_byte w n)

pub length-bits : (l : List ℕ) → length (bits l) ≡ 8 * length l
unfolding bits
length-bits [] = refl
length-bits (x ∷ l) = rw (length-append (digits 2 8 x) (bits l), length_digits 2 two 8 x, length-bits l) (omega arith)
