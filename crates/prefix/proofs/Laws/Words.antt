-- Two words and their bytes; which numbers decide the first n of their bits, and which those behind.
use Prim.Native.Nat.{ℕ, ◌+◌, ◌*◌, ◌-◌, ◌/◌, ◌%◌, ◌^◌, ◌≤◌, ◌<◌}
use native.Mathlib.Nat.{add-zero, zero-mul, mod-eq_of_lt, mul-mod_left, eq_of_mul-eq-mul_right}
use native.Mathlib.Omega.{arith}
use mathlib.Core.Path.{◌≡◌, refl, sym, ◌∙◌}
use mathlib.Core.Bool.{◌&&◌}
use mathlib.Core.List.{List, ◌++◌}
use lib.Dec.{eqb, lit<}
use lib.ListN.{length, take, drop}
use lib.Seq.{take_all, take_at, drop_at}
use lib.Pow.{pow_pos, shl-shr, mod-pow-add}
use borrow.Author.Tests.{eqb-true, eq-eqb}
use Rattle.octets.specs.Digits.{digits, big_endian, bits}
use Rattle.octets.specs.Runs.{same, all_zero}
use Rattle.octets.proofs.Laws.Tests.{alike}
use Rattle.octets.proofs.Laws.Runs.{same-first-append, drop-append, all_zero-append, spread, part_spread}
use Rattle.octets.proofs.Laws.Digits.{Below, below_spread, length_digits, number_digits, digits_number, drop-digits}
use Rattle.octets.proofs.Laws.Bits.{same_first, all_zero-digits, bits-append, bits-digits}
use Rattle.prefix.specs.declared.Prefix.{Prefix}
use Rattle.prefix.specs.Prefix.{word_bytes, bytes_of, of_bytes}

two : 0 < 2
two = lit< tt

pub length_words : (high low : ℕ) → length (word_bytes high low) ≡ 16
unfolding digits
length_words high low = refl

-- bytes are those of their prefix, and a prefix is that of its bytes
pub bytes_of-bytes : (n : ℕ) (l : List ℕ) → length l ≡ 16 → Below 256 l → bytes_of (of_bytes n l) ≡ l
bytes_of-bytes n l e h =
    let half : (k : ℕ) → k + 8 ≤ length l → digits 256 8 (big_endian (take 8 (drop k l))) ≡ spread l k 8 =
    λ k few. rw (part_spread l k 8 few) (digits_number 256 (lit< tt) (spread l k 8) (below_spread 256 l k 8 (lit< tt) h)) in
    rw (half 0 (omega arith), half 8 (omega arith)) (sym (sym (take_all 16 l (omega arith)) ∙ part_spread l 0 16 (omega arith)))

pub of_bytes_of : (p : Prefix) → p.high < 2 ^ 64 → p.low < 2 ^ 64 → of_bytes p.len (bytes_of p) ≡ p
of_bytes_of p h l =
    let first = digits 256 8 p.high in
    let second = digits 256 8 p.low in
    let long = length_digits 256 (lit< tt) 8 p.high in
    let last : take 8 second ≡ second = take_all 8 second (omega (arith, length_digits 256 (lit< tt) 8 p.low)) in
    rw (take_at first second 8 long, drop_at first second 8 long, last, number_digits 256 (lit< tt) 8 p.high, number_digits 256 (lit< tt) 8 p.low, mod-eq_of_lt h, mod-eq_of_lt l)

bits_words : (high low : ℕ) → bits (word_bytes high low) ≡ digits 2 64 high ++ digits 2 64 low
bits_words high low = rw (bits-append (digits 256 8 high) (digits 256 8 low), bits-digits 8 high, bits-digits 8 low)

pub same_words : (n a b c d : ℕ) → a < 2 ^ 64 → b < 2 ^ 64 → c < 2 ^ 64 → d < 2 ^ 64
    → same (take n (bits (word_bytes a b))) (take n (bits (word_bytes c d)))
    ≡ (eqb (a / 2 ^ (64 - n)) (c / 2 ^ (64 - n)) && eqb (b / 2 ^ (64 - (n - 64))) (d / 2 ^ (64 - (n - 64))))
same_words n a b c d ha hb hc hd =
    rw (bits_words a b, bits_words c d, same-first-append n (digits 2 64 a) (digits 2 64 c) (digits 2 64 b) (digits 2 64 d) (rw (length_digits 2 two 64 a, length_digits 2 two 64 c)), length_digits 2 two 64 a, same_first n 64 a c ha hc, same_first (n - 64) 64 b d hb hd)

pub clear_words : (n a b : ℕ) → all_zero (drop n (bits (word_bytes a b))) ≡ (eqb (a % 2 ^ (64 - n)) 0 && eqb (b % 2 ^ (64 - (n - 64))) 0)
clear_words n a b =
    rw (bits_words a b, drop-append n (digits 2 64 a) (digits 2 64 b), length_digits 2 two 64 a, all_zero-append (drop n (digits 2 64 a)) (drop (n - 64) (digits 2 64 b)), drop-digits 2 two n 64 a, drop-digits 2 two (n - 64) 64 b, all_zero-digits 2 two (64 - n) a, all_zero-digits 2 two (64 - (n - 64)) b)

-- what a shift leaves of a word is zero if the bits behind the first n are
pub shifted_out : (n a : ℕ) → n ≤ 64 → eqb (a * 2 ^ n % 2 ^ 64) 0 ≡ eqb (a % 2 ^ (64 - n)) 0
shifted_out n a h =
    let whole : 64 - n + n ≡ 64 = omega arith in
    let left : a * 2 ^ n % 2 ^ 64 ≡ (a % 2 ^ (64 - n)) * 2 ^ n =
    rw (whole, shl-shr a n, mul-mod_left a (2 ^ n), add-zero) at (mod-pow-add (a * 2 ^ n) (64 - n) n) in
    alike _ _
    (λ e. eq-eqb (a % 2 ^ (64 - n)) 0 (eq_of_mul-eq-mul_right (2 ^ n) (pow_pos n) (a % 2 ^ (64 - n)) 0 (sym left ∙ eqb-true (a * 2 ^ n % 2 ^ 64) 0 e ∙ sym (zero-mul (2 ^ n)))))
    (λ e. eq-eqb (a * 2 ^ n % 2 ^ 64) 0 (left ∙ rw (eqb-true (a % 2 ^ (64 - n)) 0 e) (zero-mul (2 ^ n))))
