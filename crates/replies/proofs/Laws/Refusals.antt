-- Which number a list of refusals gives: exactly that of the first rule that holds.
use Prim.Native.Nat.{ℕ, zero, suc, ◌<◌}
use native.Mathlib.Omega.{arith}
use mathlib.Core.Path.{◌≡◌, refl, sym, ◌∙◌, ap}
use mathlib.Core.Logic.{inl, inr, ◌↔◌, ◌≢◌}
use mathlib.Core.Bool.{Bool, true, false, cond}
use mathlib.Core.List.{List, [], ◌∷◌, ◌++◌}
use Rattle.replies.specs.Rules.{Rule, ◌if◌, ◌then◌, refusal, First, NoneHolds, Exact}

-- no rule has the number 0, which means done
abbrev pub Numbered : List Rule → Type 0
Numbered [] = Unit {0}
Numbered (r ∷ rs) = (0 < r.number) × Numbered rs

-- a number is given exactly when its rule holds and none before it
pub given-exactly : (rs : List Rule) (n : ℕ) → 0 < n → (refusal rs ≡ n) ↔ First n rs
given-exactly rs n h = (there rs, back rs)
  where
    there : (rs : List Rule) → refusal rs ≡ n → First n rs
    there [] e = absurd (omega arith)
    there (r ∷ rs) e = go r.holds refl e (there rs)
      where
        go : (t : Bool) → r.holds ≡ t → cond t r.number (refusal rs) ≡ n → (refusal rs ≡ n → First n rs) → First n (r ∷ rs)
        go true p e f = inl (p, e)
        go false p e f = inr (p, f e)

    back : (rs : List Rule) → First n rs → refusal rs ≡ n
    back [] f = absurd f
    back (r ∷ rs) (inl p) = rw p.0 p.1
    back (r ∷ rs) (inr p) = rw p.0 (back rs p.1)

-- a call is done exactly when no rule holds
pub done-exactly : (rs : List Rule) → Numbered rs → (refusal rs ≡ 0) ↔ NoneHolds rs
done-exactly rs k = (there rs k, back rs)
  where
    there : (rs : List Rule) → Numbered rs → refusal rs ≡ 0 → NoneHolds rs
    there [] k e = tt
    there (r ∷ rs) k e = go r.holds refl e (there rs k.1)
      where
        go : (t : Bool) → r.holds ≡ t → cond t r.number (refusal rs) ≡ 0 → (refusal rs ≡ 0 → NoneHolds rs) → NoneHolds (r ∷ rs)
        go true p e f = absurd (omega (arith, k.0))
        go false p e f = (p, f e)

    back : (rs : List Rule) → NoneHolds rs → refusal rs ≡ 0
    back [] h = refl
    back (r ∷ rs) h = rw h.0 (back rs h.1)

-- a list that refuses goes on refusing so, whatever follows it
pub refusal_more : (rs more : List Rule) (n : ℕ) → 0 < n → refusal rs ≡ n → refusal (rs ++ more) ≡ n
refusal_more rs more n h e = (given-exactly (rs ++ more) n h).1 (longer rs ((given-exactly rs n h).0 e))
  where
    longer : (rs : List Rule) → First n rs → First n (rs ++ more)
    longer [] f = absurd f
    longer (r ∷ rs) (inl p) = inl p
    longer (r ∷ rs) (inr p) = inr (p.0, longer rs p.1)

-- what a list lets through, the next decides
pub refusal-next : (rs more : List Rule) → NoneHolds rs → refusal (rs ++ more) ≡ refusal more
refusal-next [] more h = refl
refusal-next (r ∷ rs) more h = rw h.0 (refusal-next rs more h.1)

-- what a longer list lets through, its beginning does
pub none_left : (rs more : List Rule) → NoneHolds (rs ++ more) → NoneHolds rs
none_left [] more h = tt
none_left (r ∷ rs) more h = (h.0, none_left rs more h.1)

pub none_right : (rs more : List Rule) → NoneHolds (rs ++ more) → NoneHolds more
none_right [] more h = h
none_right (r ∷ rs) more h = none_right rs more h.1

pub exact : (rs : List Rule) → Numbered rs → Exact rs (refusal rs)
exact rs k = record { number = given-exactly rs; done = done-exactly rs k }

-- what a list of numbered rules answers with 0, the next list decides
pub refusal_past : (rs more : List Rule) → Numbered rs → refusal rs ≡ 0 → refusal (rs ++ more) ≡ refusal more
refusal_past rs more k e = refusal-next rs more ((done-exactly rs k).0 e)

-- code asks one list and then the next: the first number that is not 0 is given
pub by_first : (rs more : List Rule) (n : ℕ) → n ≡ refusal rs → n ≢ 0 → n ≡ refusal (rs ++ more)
by_first rs more n e h = sym (refusal_more rs more n (omega arith) (sym e))

pub by_second : (rs more : List Rule) (n m : ℕ) → Numbered rs → n ≡ refusal rs → n ≡ 0 → m ≡ refusal more → m ≡ refusal (rs ++ more)
by_second rs more n m k e z f = f ∙ sym (refusal_past rs more k (sym e ∙ z))

pub numbered_append : (rs more : List Rule) → Numbered rs → Numbered more → Numbered (rs ++ more)
numbered_append [] more h k = k
numbered_append (r ∷ rs) more h k = (h.0, numbered_append rs more h.1 k)

-- rules that were asked before change nothing where they are asked once more
pub refusal-again : (rs more : List Rule) → Numbered rs → refusal (rs ++ (rs ++ more)) ≡ refusal (rs ++ more)
refusal-again rs more k = go (refusal rs) refl
  where
    go : (n : ℕ) → refusal rs ≡ n → refusal (rs ++ (rs ++ more)) ≡ refusal (rs ++ more)
    go zero e = refusal_past rs (rs ++ more) k e
    go (suc n) e = refusal_more rs (rs ++ more) (suc n) (omega arith) e ∙ sym (refusal_more rs more (suc n) (omega arith) e)

-- a rule that does not hold is passed over, wherever it stands
pub passed_over : (rs more : List Rule) (n : ℕ) (b : Bool) → b ≡ false → refusal (rs ++ (n if b then more)) ≡ refusal (rs ++ more)
passed_over rs more n b e = go rs
  where
    go : (rs : List Rule) → refusal (rs ++ (n if b then more)) ≡ refusal (rs ++ more)
    go [] = rw e
    go (r ∷ rs) = ap (λ (m : ℕ). cond r.holds r.number m) (go rs)
