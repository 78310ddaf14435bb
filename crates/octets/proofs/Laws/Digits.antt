-- Digits: a number is its digits and the digits are its number, in every base and at every width.
use Prim.Native.Nat.{ℕ, zero, suc, ◌+◌, ◌*◌, ◌-◌, ◌/◌, ◌%◌, ◌^◌, ◌≤◌, ◌<◌}
use native.Mathlib.Nat.{add_assoc, add-mul, mul_assoc, pow-zero, pow-suc, pow-succ', mod-one, mod-eq_of_lt, mod-lt, one-le-pow, div-div-eq-div-mul, le_of_suc-le-suc, not-suc-le-zero, zero-div, zero-mod}
use native.Mathlib.Numerals.{add-one}
use native.Mathlib.Omega.{arith}
use mathlib.Core.Path.{◌≡◌, refl, sym, ◌∙◌, ap}
use mathlib.Core.List.{List, [], ◌∷◌, ◌++◌}
use lib.ListN.{length, get_or, take, drop, replicate, length-append, take-append-drop}
use lib.Arith.{digits_lt, digits_div, digits_mod, mod-mul}
use lib.Pow.{pow-add}
use Rattle.octets.specs.Digits.{digits, number}
use Rattle.octets.proofs.Laws.Runs.{spread}

-- each number of the run is below b; past its end stands 0
abbrev pub Below : ℕ → List ℕ → Type 0
Below b l = (i : ℕ) → get_or l i 0 < b

pub below_append : (b : ℕ) (s t : List ℕ) → Below b s → Below b t → Below b (s ++ t)
below_append b [] t f g i = g i
below_append b (x ∷ s) t f g zero = f 0
below_append b (x ∷ s) t f g (suc i) = below_append b s t (λ j. f (suc j)) g i

pub below_spread : (b : ℕ) (l : List ℕ) (k n : ℕ) → 0 < b → Below b l → Below b (spread l k n)
below_spread b l k zero some f i = some
below_spread b l k (suc n) some f zero = f k
below_spread b l k (suc n) some f (suc i) = below_spread b l (suc k) n some f i

below_drop : (b : ℕ) (l : List ℕ) (k : ℕ) → 0 < b → Below b l → Below b (drop k l)
below_drop b l zero some f = f
below_drop b [] (suc k) some f = f
below_drop b (x ∷ l) (suc k) some f = below_drop b l k some (λ i. f (suc i))

below_take : (b : ℕ) (l : List ℕ) (n : ℕ) → 0 < b → Below b l → Below b (take n l)
below_take b l zero some f i = some
below_take b [] (suc n) some f i = some
below_take b (x ∷ l) (suc n) some f zero = f 0
below_take b (x ∷ l) (suc n) some f (suc i) = below_take b l n some (λ j. f (suc j)) i

pub below_part : (b : ℕ) (l : List ℕ) (k n : ℕ) → 0 < b → Below b l → Below b (take n (drop k l))
below_part b l k n some f = below_take b (drop k l) n some (below_drop b l k some f)

module _ (b : ℕ) (some : 0 < b) where
  power : (w : ℕ) → 0 < b ^ w
  power w = one-le-pow w b some

  pub length_digits : (w n : ℕ) → length (digits b w n) ≡ w
  unfolding digits
  length_digits zero n = refl
  length_digits (suc w) n = ap suc (length_digits w n)

  split : (w n : ℕ) → n % b ^ suc w ≡ (n / b ^ w % b) * b ^ w + n % b ^ w
  split w n = rw (pow-succ' b w) (mod-mul n some (power w))

  pub number_digits : (w n : ℕ) → number b (digits b w n) ≡ n % b ^ w
  unfolding digits number
  number_digits zero n = rw (pow-zero b) (sym (mod-one n))
  number_digits (suc w) n = rw (length_digits w n, number_digits w n, split w n)

  pub number_below : (l : List ℕ) → Below b l → number b l < b ^ length l
  unfolding number
  number_below [] h = power 0
  number_below (d ∷ ds) h = rw (pow-succ' b (length ds)) (digits_lt (h 0) (number_below ds (λ i. h (suc i))))

  -- only the lowest digits of a number decide its lowest digits
  pub digits-alike : (w m n : ℕ) → m % b ^ w ≡ n % b ^ w → digits b w m ≡ digits b w n
  unfolding digits
  digits-alike zero m n e = refl
  digits-alike (suc w) m n e =
      let s = sym (split w m) ∙ e ∙ split w n in
      let high : m / b ^ w % b ≡ n / b ^ w % b =
      sym (digits_div (m / b ^ w % b) (mod-lt m (power w))) ∙ ap (λ (k : ℕ). k / b ^ w) s ∙ digits_div (n / b ^ w % b) (mod-lt n (power w)) in
      let low : m % b ^ w ≡ n % b ^ w =
      sym (digits_mod (m / b ^ w % b) (mod-lt m (power w))) ∙ ap (λ (k : ℕ). k % b ^ w) s ∙ digits_mod (n / b ^ w % b) (mod-lt n (power w)) in
      λ i. high i ∷ digits-alike w m n low i

  pub digits_number : (l : List ℕ) → Below b l → digits b (length l) (number b l) ≡ l
  unfolding digits number
  digits_number [] h = refl
  digits_number (d ∷ ds) h =
      let small = number_below ds (λ i. h (suc i)) in
      let high : (d * b ^ length ds + number b ds) / b ^ length ds % b ≡ d =
      ap (λ (k : ℕ). k % b) (digits_div d small) ∙ mod-eq_of_lt (h 0) in
      let low : (d * b ^ length ds + number b ds) % b ^ length ds ≡ number b ds % b ^ length ds =
      digits_mod d small ∙ sym (mod-eq_of_lt small) in
      λ i. high i ∷ (digits-alike (length ds) _ _ low ∙ digits_number ds (λ i. h (suc i))) i

  pub take-digits : (k w n : ℕ) → k ≤ w → take k (digits b w n) ≡ digits b k (n / b ^ (w - k))
  unfolding digits
  take-digits zero w n h = refl
  take-digits (suc k) zero n h = absurd (not-suc-le-zero h)
  take-digits (suc k) (suc w) n h =
      let less : suc w - suc k ≡ w - k = omega arith in
      let whole : (w - k) + k ≡ w = omega arith in
      let high : n / b ^ (w - k) / b ^ k ≡ n / b ^ w =
      div-div-eq-div-mul n (b ^ (w - k)) (b ^ k) ∙ ap (λ (j : ℕ). n / j) (sym (pow-add b (w - k) k)) ∙ ap (λ (j : ℕ). n / b ^ j) whole in
      rw (less, high, take-digits k w n (le_of_suc-le-suc h))

  pub drop-digits : (k w n : ℕ) → drop k (digits b w n) ≡ digits b (w - k) n
  unfolding digits
  drop-digits zero w n = rw (let e : w - 0 ≡ w = omega arith in e)
  drop-digits (suc k) zero n = rw (let e : 0 - suc k ≡ 0 = omega arith in e)
  drop-digits (suc k) (suc w) n = rw (let e : suc w - suc k ≡ w - k = omega arith in e) (drop-digits k w n)

  pub digits_append : (v w n : ℕ) → digits b (v + w) n ≡ digits b v (n / b ^ w) ++ digits b w n
  digits_append v w n =
      let less : v + w - v ≡ w = omega arith in
      sym (rw (take-digits v (v + w) n (omega arith), drop-digits v (v + w) n, less) at (take-append-drop v (digits b (v + w) n)))

  pub digits_zero : (w : ℕ) → digits b w 0 ≡ replicate w 0
  unfolding digits
  digits_zero zero = refl
  digits_zero (suc w) = rw (zero-div (b ^ w), zero-mod b, digits_zero w)

  -- a number grows by one digit at its end
  pub number_snoc : (l : List ℕ) (d : ℕ) → number b (l ++ d ∷ []) ≡ number b l * b + d
  unfolding number
  number_snoc [] d = rw pow-zero (omega arith)
  number_snoc (x ∷ l) d =
      rw (number_snoc l d, length-append l (d ∷ []), add-one (length l), pow-suc b (length l), ← mul_assoc x (b ^ length l) b, add-mul (x * b ^ length l) (number b l) b)
      (sym (add_assoc _ _ _))
