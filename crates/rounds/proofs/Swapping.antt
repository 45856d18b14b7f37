-- Which columns has a walk over the columns exchanged so far? Assumes nothing.
use mathlib.Core.Path.{◌∙◌, ◌≡◌, ap, ap₂, refl, subst, sym}
use mathlib.Core.Bool.{Bool, false, true, cond}
use mathlib.Core.List.{List, [], ◌++◌, ◌∷◌, append-nil}
use Prim.Native.Nat.{◌+◌, ◌-◌, ◌<◌, ◌^◌, ◌≤◌, suc, ℕ}
use native.Mathlib.Nat.{le_refl, zero-add}
use native.Mathlib.Numerals.{add-one}
use native.Mathlib.Omega.{arith}
use lib.Dec.{eqb}
use lib.ListN.{length, length-append, replicate, set}
use borrow.Author.Tests.{eq-eqb, ne_eqb}
use Rattle.algebra.specs.Matrix.{identity}
use Rattle.algebra.specs.Search.{listed, which}
use Rattle.algebra.proofs.Linear.{listed_units}
use Rattle.algebra.proofs.Listed.{listed_same, one_place, room_set, which-append, which_from, which_none, which_snoc, which_upto}
use Rattle.algebra.proofs.Lists.{off_above, off_below}
use Rattle.planning.specs.Columns.{placing}
use Rattle.planning.specs.Making.{came_from}
use Rattle.planning.proofs.Acts.{came_from_snoc}

-- ---- a list that is longer than the other counts no further
came_from_left : (xs ys zs : List ℕ) (j : ℕ) → length xs ≡ length ys → came_from (xs ++ zs) ys j ≡ came_from xs ys j
unfolding came_from
came_from_left [] [] [] j l = refl
came_from_left [] [] (z ∷ zs) j l = refl
came_from_left [] (y ∷ ys) zs j l = absurd (omega (arith, l))
came_from_left (x ∷ xs) [] zs j l = refl
came_from_left (x ∷ xs) (y ∷ ys) zs j l =
    ap (λ (k : ℕ). cond (eqb j x) y (cond (eqb j y) x k)) (came_from_left xs ys zs j (omega (arith, l)))

came_from-right : (xs ys zs : List ℕ) (j : ℕ) → length xs ≡ length ys → came_from xs (ys ++ zs) j ≡ came_from xs ys j
unfolding came_from
came_from-right [] ys zs j l = refl
came_from-right (x ∷ xs) [] zs j l = absurd (omega (arith, l))
came_from-right (x ∷ xs) (y ∷ ys) zs j l =
    ap (λ (k : ℕ). cond (eqb j x) y (cond (eqb j y) x k)) (came_from-right xs ys zs j (omega (arith, l)))

-- ---- the walk: the places below x that pass p, with as many of those from b on and below y that pass q
module _ (p q : ℕ → Bool) (b : ℕ) where
  abbrev firsts : ℕ → List ℕ
  firsts x = which p x 0

  abbrev seconds : ℕ → List ℕ
  seconds y = which q (y - b) b

  abbrev came : ℕ → ℕ → ℕ → ℕ
  came x y = came_from (firsts x) (seconds y)

  first_next : (x : ℕ) → firsts (x + 1) ≡ firsts x ++ one_place (p x) x
  first_next x = ap firsts (add-one x) ∙ which_snoc p x 0 ∙ ap (λ (k : ℕ). firsts x ++ one_place (p k) k) (zero-add x)

  first_skip : (x : ℕ) → p x ≡ false → firsts (x + 1) ≡ firsts x
  first_skip x e = first_next x ∙ rw e (append-nil (firsts x))

  second_skip : (y z : ℕ) → b ≤ y → y ≤ z → ((k : ℕ) → y ≤ k → k < z → q k ≡ false) → seconds z ≡ seconds y
  second_skip y z l h f =
      let parts : z - b ≡ (y - b) + (z - y) = omega arith in
      let from : b + (y - b) ≡ y = omega arith in
      ap (λ (k : ℕ). which q k b) parts ∙ which-append q (y - b) (z - y) b
      ∙ ap (λ (t : List ℕ). seconds y ++ t) (ap (which q (z - y)) from ∙ which_none q (z - y) y (λ i u v. f i u (omega arith))) ∙ append-nil (seconds y)

  second_more : (z : ℕ) → b ≤ z → q z ≡ true → seconds (z + 1) ≡ seconds z ++ z ∷ []
  second_more z l e =
      let parts : z + 1 - b ≡ suc (z - b) = omega arith in
      let at : b + (z - b) ≡ z = omega arith in
      ap (λ (k : ℕ). which q k b) parts ∙ which_snoc q (z - b) b ∙ ap (λ (k : ℕ). seconds z ++ one_place (q k) k) at ∙ rw e refl

  -- where the seconds run out
  seconds_out : (m x y j : ℕ) → x ≤ b → b ≤ y → y ≤ m → length (firsts x) ≡ length (seconds y) → ((k : ℕ) → y ≤ k → k < m → q k ≡ false)
      → came x y j ≡ came b m j
  seconds_out m x y j hx hy hm l f =
      let parts : b ≡ x + (b - x) = omega arith in
      sym (ap₂ (λ (u v : List ℕ). came_from u v j) (ap firsts parts ∙ which-append p x (b - x) 0) (second_skip y m hy hm f)
      ∙ came_from_left (firsts x) (seconds y) (which p (b - x) (0 + x)) j l)

  -- where the firsts do
  firsts_out : (m x y j : ℕ) → x ≡ b → b ≤ y → y ≤ m → length (firsts x) ≡ length (seconds y) → came x y j ≡ came b m j
  firsts_out m x y j hx hy hm l =
      let parts : m - b ≡ (y - b) + (m - y) = omega arith in
      sym (ap₂ (λ (u v : List ℕ). came_from u v j) (ap firsts (sym hx)) (ap (λ (k : ℕ). which q k b) parts ∙ which-append q (y - b) (m - y) b)
      ∙ came_from-right (firsts x) (seconds y) (which q (m - y) (b + (y - b))) j l)

  -- S so far, in an array with room for more
  module _ (n room : ℕ) where
    pub record Exchanged (x y : ℕ) (s : List ℕ) : Type 0 where
      pub even : length (firsts x) ≡ length (seconds y)
      pub holds : s ≡ placing (came x y) n ++ replicate room 0

    pub exchanged_none : (s : List ℕ) → s ≡ identity n ++ replicate room 0 → Exchanged 0 b s
    unfolding which placing identity came_from
    exchanged_none s e =
        let none : b - b ≡ 0 = omega arith in
        let empty : seconds b ≡ [] = ap (λ (k : ℕ). which q k b) none in
        record { even = ap length (sym empty); holds = e ∙ ap (λ (l : List ℕ). l ++ replicate room 0) (sym (listed_units n 0)) }

    pub exchanged_same : (x y y' : ℕ) (s s' : List ℕ) → y' ≡ y → s' ≡ s → Exchanged x y s → Exchanged x y' s'
    exchanged_same x y y' s s' ey es i = subst (λ (l : List ℕ). Exchanged x y' l) (sym es) (subst (λ (k : ℕ). Exchanged x k s) (sym ey) i)

    pub exchanged_skip : (x y : ℕ) (s : List ℕ) → p x ≡ false → Exchanged x y s → Exchanged (x + 1) y s
    exchanged_skip x y s e i = record {
      even = ap length (first_skip x e) ∙ i.even;
      holds = i.holds ∙ ap (λ (l : List ℕ). placing (came_from l (seconds y)) n ++ replicate room 0) (sym (first_skip x e));
    }

    -- the next two: x, and z after y
    module _ (x y z : ℕ) (hx : x < b) (hy : b ≤ y) (hz : y ≤ z) (ex : p x ≡ true) (ez : q z ≡ true) (between : (k : ℕ) → y ≤ k → k < z → q k ≡ false) where
      next_firsts : firsts (x + 1) ≡ firsts x ++ x ∷ []
      next_firsts = first_next x ∙ rw ex refl

      next_seconds : seconds (z + 1) ≡ seconds y ++ z ∷ []
      next_seconds = second_more z (omega arith) ez ∙ ap (λ (l : List ℕ). l ++ z ∷ []) (second_skip y z hy hz between)

      next_partner : (j : ℕ) → length (firsts x) ≡ length (seconds y)
          → came_from (firsts x ++ x ∷ []) (seconds y ++ z ∷ []) j ≡ cond (eqb j x) z (cond (eqb j z) x (came x y j))
      next_partner j l =
          let low = which_upto p x 0 x (omega arith) in
          came_from_snoc (firsts x) (seconds y) x z j l (off_below x x (firsts x) (le_refl x) low) (off_above x b (seconds y) hx (which_from q (y - b) b))
          (off_below z x (firsts x) (omega arith) low) (off_below z y (seconds y) hz (which_upto q (y - b) b y (omega arith)))

      power_first : (t : Bool) (k : ℕ) → cond t (2 ^ z) (2 ^ k) ≡ 2 ^ (cond t z k)
      power_first true k = refl
      power_first false k = refl

      pub exchanged_more : (s : List ℕ) (u v : ℕ) → z < n → u ≡ 2 ^ z → v ≡ 2 ^ x → Exchanged x y s → Exchanged (x + 1) (z + 1) (set (set s x u) z v)
      unfolding placing
      exchanged_more s u v hn eu ev i =
          let old : ℕ → ℕ = λ j. 2 ^ came x y j in
          let mid : ℕ → ℕ = λ j. cond (eqb j x) (2 ^ z) (old j) in
          let new : ℕ → ℕ = λ j. 2 ^ came_from (firsts x ++ x ∷ []) (seconds y ++ z ∷ []) j in
          let rest : List ℕ = replicate room 0 in
          let first : set (listed old n 0 ++ rest) x u ≡ listed mid n 0 ++ rest
          = room_set old mid n x u rest (omega arith) (eu ∙ sym (ap (λ (t : Bool). cond t (2 ^ z) (old x)) (eq-eqb x x refl)))
          (λ j h w. sym (ap (λ (t : Bool). cond t (2 ^ z) (old j)) (ne_eqb j x w))) in
          let second : set (listed mid n 0 ++ rest) z v ≡ listed new n 0 ++ rest
          = room_set mid new n z v rest hn
          (ev ∙ ap (λ (k : ℕ). 2 ^ k) (sym (next_partner z i.even
          ∙ ap₂ (λ (t r : Bool). cond t z (cond r x (came x y z))) (ne_eqb z x (λ w. omega arith)) (eq-eqb z z refl))))
          (λ j h w. power_first (eqb j x) (came x y j)
          ∙ ap (λ (k : ℕ). 2 ^ k) (sym (next_partner j i.even ∙ ap (λ (r : Bool). cond (eqb j x) z (cond r x (came x y j))) (ne_eqb j z w)))) in
          record {
            even = omega (arith, ap length next_firsts, length-append (firsts x) (x ∷ []), i.even, length-append (seconds y) (z ∷ []), ap length next_seconds);
            holds = ap (λ (l : List ℕ). set (set l x u) z v) i.holds ∙ ap (λ (l : List ℕ). set l z v) first ∙ second
                ∙ ap₂ (λ (f g : List ℕ). listed (λ j. 2 ^ came_from f g j) n 0 ++ rest) (sym next_firsts) (sym next_seconds);
          }

    -- .. and when there are no two more
    all_placed : (m x y : ℕ) (s : List ℕ) → ((j : ℕ) → came x y j ≡ came b m j) → Exchanged x y s → s ≡ placing (came b m) n ++ replicate room 0
    unfolding placing
    all_placed m x y s f i =
        i.holds ∙ ap (λ (l : List ℕ). l ++ replicate room 0)
        (listed_same (λ j. 2 ^ came x y j) (λ j. 2 ^ came b m j) n 0 (λ j a c. ap (λ (k : ℕ). 2 ^ k) (f j)))

    pub exchanged_out : (m x y : ℕ) (s : List ℕ) → x ≤ b → b ≤ y → y ≤ m → ((k : ℕ) → y ≤ k → k < m → q k ≡ false) → Exchanged x y s
        → s ≡ placing (came b m) n ++ replicate room 0
    exchanged_out m x y s hx hy hm f i = all_placed m x y s (λ j. seconds_out m x y j hx hy hm i.even f) i

    pub exchanged_all : (m x y : ℕ) (s : List ℕ) → x ≡ b → b ≤ y → y ≤ m → Exchanged x y s → s ≡ placing (came b m) n ++ replicate room 0
    exchanged_all m x y s hx hy hm i = all_placed m x y s (λ j. firsts_out m x y j hx hy hm i.even) i
