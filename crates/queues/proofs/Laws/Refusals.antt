-- Which number adding, showing and taking answer, in the rules' words, and that what is refused changes nothing.
use Rattle.std.specs.Prelude.{Option, Some, None}
use Prim.Native.Nat.{ℕ, zero, suc, ◌+◌, ◌/◌, ◌≤◌, ◌<◌}
use native.Mathlib.Omega.{arith}
use mathlib.Core.Path.{◌≡◌, refl, sym, ◌∙◌}
use mathlib.Core.Logic.{◌↔◌, ◌≢◌}
use mathlib.Core.Bool.{Bool, true, false, cond, ◌&&◌}
use mathlib.Core.List.{List, [], ◌∷◌}
use lib.Dec.{eqb}
use lib.ListN.{length}
use borrow.Author.Tests.{not-true, not-false, lt-ltb, le-ltb, ltb-true, ltb-false, leb-true, leb-false, eqb-true, eq-eqb, ne_eqb}
use Rattle.octets.proofs.Laws.Tests.{clash}
use Rattle.replies.specs.Rules.{Rule, refusal, Exact}
use Rattle.replies.proofs.Laws.Refusals.{exact}
use Rattle.numbers.specs.Numbers.{groups}
use Rattle.queues.specs.declared.State.{State}
use Rattle.queues.specs.Packets.{packed, front, good, Bytes, DecidesExactly}
use Rattle.queues.specs.Calls.{add_rules, add_unless, add, next_rules, film_goes, shown_at, next_held, show_unless, show, take_shown, take_next}
use Rattle.queues.specs.Refusals.{CanBeLeft, Not, AddRefuses, Needs, NextRefuses, QueueDemand1}
use Rattle.queues.proofs.Laws.Packets.{length-packed, decides_exactly}

-- a number that is n is k exactly under a condition: n is k and the condition holds, or neither
met : {A : Type 0} {m n : ℕ} → m ≡ n → A → (m ≡ n) ↔ A
met e a = (λ h. a, λ h. e)

apart : {A : Type 0} {m n k : ℕ} → m ≡ n → n ≢ k → Not A → (m ≡ k) ↔ A
apart e d a = (λ h. absurd (d (sym e ∙ h)), λ h. absurd (a h))

-- the rule that a list's number is from: those before it do not hold
data Which : List Rule → ℕ → Type 0 where
  holds : {r : Rule} {rs : List Rule} → r.holds ≡ true → Which (r ∷ rs) r.number
  passes : {r : Rule} {rs : List Rule} {n : ℕ} → r.holds ≡ false → Which rs n → Which (r ∷ rs) n
  end : Which [] 0

which : (rs : List Rule) → Which rs (refusal rs)
which [] = end
which (r ∷ rs) = go r.holds refl (which rs)
  where
    go : (t : Bool) → r.holds ≡ t → Which rs (refusal rs) → Which (r ∷ rs) (cond t r.number (refusal rs))
    go true e w = holds e
    go false e w = passes e w

-- two tests, in words
two_tests : {A B : Type 0} {s t : Bool} → (s ≡ true) ↔ A → (t ≡ true) ↔ B → ((s && t) ≡ true) ↔ (A × B)
two_tests {s = true} f g = (λ e. (f.0 refl, g.0 e), λ w. g.1 w.1)
two_tests {s = false} f g = (λ e. clash e refl, λ w. f.1 w.0)

-- Adding

pub add-number : (held : ℕ) (queue p : List ℕ) → (add held queue p).number ≡ refusal (add_rules held queue p)
unfolding add
add-number held queue p = go (refusal (add_rules held queue p))
  where
    go : (n : ℕ) → (add_unless n held queue p).number ≡ n
    go zero = refl
    go (suc n) = rw (ne_eqb (suc n) 0 (λ e. omega arith))

pub add-refused : (held : ℕ) (queue p : List ℕ) → (add held queue p).number ≢ 0 → ((add held queue p).held ≡ held) × ((add held queue p).bytes ≡ queue)
unfolding add
add-refused held queue p h =
    let refuses = ne_eqb (refusal (add_rules held queue p)) 0 (λ e. h (add-number held queue p ∙ e)) in
    (rw refuses, rw refuses)

-- the one condition of the four that holds, with its number
data Added (held : ℕ) (queue p : List ℕ) : ℕ → Type 0 where
  bad : Not (CanBeLeft held queue) → Added held queue p 37
  long : CanBeLeft held queue → 1280 < length p → Added held queue p 9
  full : CanBeLeft held queue → length p ≤ 1280 → 4096 < held + length (packed p) → Added held queue p 24
  done : CanBeLeft held queue → length p ≤ 1280 → held + length (packed p) ≤ 4096 → Added held queue p 0

added : (held : ℕ) (queue p : List ℕ) → Bytes queue → Added held queue p (refusal (add_rules held queue p))
unfolding DecidesExactly
added held queue p b = go (which (add_rules held queue p))
  where
    go : {n : ℕ} → Which (add_rules held queue p) n → Added held queue p n
    go (holds e) = bad (λ c. clash ((decides_exactly held queue b).1 c) (not-true _ e))
    go (passes e (holds f)) = long ((decides_exactly held queue b).0 (not-false _ e)) (omega (arith, ltb-true, leb-true))
    go (passes e (passes f (holds g))) = full ((decides_exactly held queue b).0 (not-false _ e)) (omega (arith, ltb-false, leb-false)) (omega (arith, ltb-true, leb-true))
    go (passes e (passes f (passes g end))) = done ((decides_exactly held queue b).0 (not-false _ e)) (omega (arith, ltb-false, leb-false)) (omega (arith, ltb-false, leb-false))

add-refuses : (held : ℕ) (queue p : List ℕ) → Bytes queue → AddRefuses held queue p
add-refuses held queue p b = go (add-number held queue p) (added held queue p b)
  where
    given : Exact (add_rules held queue p) (add held queue p).number
    given = rw add-number (exact (add_rules held queue p) (omega arith))

    go : {n : ℕ} → (add held queue p).number ≡ n → Added held queue p n → AddRefuses held queue p
    go e (bad h) = record {
      exact = given;
      bad = met e h;
      long = apart e (λ z. omega arith) (λ w. h w.0);
      full = apart e (λ z. omega arith) (λ w. h w.0);
      done = apart e (λ z. omega arith) (λ w. h w.0);
      unchanged = add-refused held queue p;
    }
    go e (long c s) = record {
      exact = given;
      bad = apart e (λ z. omega arith) (λ h. h c);
      long = met e (c, s);
      full = apart e (λ z. omega arith) (λ w. omega arith);
      done = apart e (λ z. omega arith) (λ w. omega arith);
      unchanged = add-refused held queue p;
    }
    go e (full c s t) = record {
      exact = given;
      bad = apart e (λ z. omega arith) (λ h. h c);
      long = apart e (λ z. omega arith) (λ w. omega arith);
      full = met e (c, s, t);
      done = apart e (λ z. omega arith) (λ w. omega arith);
      unchanged = add-refused held queue p;
    }
    go e (done c s t) = record {
      exact = given;
      bad = apart e (λ z. omega arith) (λ h. h c);
      long = apart e (λ z. omega arith) (λ w. omega arith);
      full = apart e (λ z. omega arith) (λ w. omega arith);
      done = met e (c, s, t);
      unchanged = add-refused held queue p;
    }

pub packet_needs : (p : List ℕ) → Needs p
unfolding groups
packet_needs p = record {
  one = λ h. rw (length-packed, lt-ltb (length p) 128 h);
  two = λ h k. rw (length-packed, le-ltb (length p) 128 h, lt-ltb (length p / 128) 128 (omega arith));
}

-- Showing and taking

shown-number : (f : Bool) (r : Option (ℕ × ℕ)) → (shown_at f r).number ≡ 0
shown-number f (Some (n, k)) = refl
shown-number f None = refl

pub show-number : (s : State) (control film : List ℕ) → (show s control film).number ≡ refusal (next_rules s control film)
unfolding show
show-number s control film = go (refusal (next_rules s control film))
  where
    go : (n : ℕ) → (show_unless n s control film).number ≡ n
    go zero = shown-number (film_goes s) (front (next_held s control film))
    go (suc n) = rw (ne_eqb (suc n) 0 (λ e. omega arith))

-- taking is refused as showing is
pub take-number : (s : State) (control film : List ℕ) → (take_next s control film).reply.number ≡ (show s control film).number
unfolding take_next
take-number s control film = go (eqb (show s control film).number 0) refl (show s control film).film refl
  where
    go : (t : Bool) → eqb (show s control film).number 0 ≡ t → (f : Bool) → (show s control film).film ≡ f → (take_shown (show s control film) s control film).reply.number ≡ (show s control film).number
    go true t true f = rw (t, f) (sym (eqb-true (show s control film).number 0 t))
    go true t false f = rw (t, f) (sym (eqb-true (show s control film).number 0 t))
    go false t f e = rw t

pub take-refused : (s : State) (control film : List ℕ) → (show s control film).number ≢ 0 → ((take_next s control film).reply.state ≡ s) × ((take_next s control film).control ≡ control) × ((take_next s control film).film ≡ film)
unfolding take_next
take-refused s control film h =
    let refuses = ne_eqb (show s control film).number 0 h in
    (rw refuses, rw refuses, rw refuses)

-- the one condition of the three that holds, with its number
data Next (s : State) (control film : List ℕ) : ℕ → Type 0 where
  bad : Not (CanBeLeft s.control control × CanBeLeft s.film film) → Next s control film 37
  none : CanBeLeft s.control control → CanBeLeft s.film film → s.control ≡ 0 → s.film ≡ 0 → Next s control film 25
  some : CanBeLeft s.control control → CanBeLeft s.film film → Not ((s.control ≡ 0) × (s.film ≡ 0)) → Next s control film 0

next : (s : State) (control film : List ℕ) → Bytes control → Bytes film → Next s control film (refusal (next_rules s control film))
unfolding DecidesExactly
next s control film b c = go (which (next_rules s control film))
  where
    both : (good s.control control && good s.film film) ≡ true ↔ (CanBeLeft s.control control × CanBeLeft s.film film)
    both = two_tests (decides_exactly s.control control b) (decides_exactly s.film film c)

    empty : (eqb s.control 0 && eqb s.film 0) ≡ true ↔ ((s.control ≡ 0) × (s.film ≡ 0))
    empty = two_tests (eqb-true s.control 0, eq-eqb s.control 0) (eqb-true s.film 0, eq-eqb s.film 0)

    go : {n : ℕ} → Which (next_rules s control film) n → Next s control film n
    go (holds e) = bad (λ w. clash (both.1 w) (not-true _ e))
    go (passes e (holds f)) = let w = both.0 (not-false _ e) in let z = empty.0 f in none w.0 w.1 z.0 z.1
    go (passes e (passes f end)) = let w = both.0 (not-false _ e) in some w.0 w.1 (λ z. clash (empty.1 z) f)

next-refuses : (s : State) (control film : List ℕ) → Bytes control → Bytes film → NextRefuses s control film
next-refuses s control film b c = go (show-number s control film) (next s control film b c)
  where
    given : Exact (next_rules s control film) (show s control film).number
    given = rw show-number (exact (next_rules s control film) (omega arith))

    go : {n : ℕ} → (show s control film).number ≡ n → Next s control film n → NextRefuses s control film
    go e (bad h) = record {
      exact = given;
      bad = met e h;
      none = apart e (λ z. omega arith) (λ w. h (w.0, w.1));
      same = take-number s control film;
      unchanged = take-refused s control film;
    }
    go e (none g h x y) = record {
      exact = given;
      bad = apart e (λ z. omega arith) (λ w. w (g, h));
      none = met e (g, h, x, y);
      same = take-number s control film;
      unchanged = take-refused s control film;
    }
    go e (some g h x) = record {
      exact = given;
      bad = apart e (λ z. omega arith) (λ w. w (g, h));
      none = apart e (λ z. omega arith) (λ w. x (w.2, w.3));
      same = take-number s control film;
      unchanged = take-refused s control film;
    }

pub queue_demand_1 : QueueDemand1
unfolding QueueDemand1
queue_demand_1 = (λ held queue p b. (add-refuses held queue p b, packet_needs p), next-refuses)
