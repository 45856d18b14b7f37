-- What do all passes do to the records, and what does each leave behind it? Assumes nothing.
use mathlib.Core.Path.{◌∙◌, ◌≡◌, ap, ap₂, refl, subst, sym}
use mathlib.Core.Logic.{⊎_elim}
use mathlib.Core.Bool.{true}
use mathlib.Core.List.{List, [], ◌++◌, ◌∷◌}
use Prim.Native.Nat.{◌%◌, ◌*◌, ◌+◌, ◌<◌, ◌≤◌, suc, zero, ℕ}
use native.Mathlib.Nat.{le_refl, mul_comm, zero-mul}
use native.Mathlib.Omega.{arith}
use borrow.Author.Tests.{eq-eqb, ne_eqb}
use lib.ListN.{get_or, length, take}
use lib.Seq.{take-length, take-suc}
use Rattle.algebra.proofs.Inverse.{source-lt, target-lt}
use Rattle.algebra.proofs.Search.{same_or}
use Rattle.algebra.proofs.Singular.{source-target}
use Rattle.algebra.specs.Matrix.{target}
use Rattle.bank.specs.Geometry.{memory_size, records}
use Rattle.bank.specs.declared.Geometry.{Geometry}
use Rattle.moving.proofs.Bytes.{same_record}
use Rattle.moving.proofs.Pass.{PassDone, before_pass, pass_done}
use Rattle.moving.specs.Bytes.{AllZero, record_of}
use Rattle.moving.specs.Step.Area.{zeroth, first}
use Rattle.moving.specs.Step.{Area, Buffers, area_read, area_written, bytes_of, move, moves_from, other_area, source_of}
use Rattle.planning.specs.Pass.{Pass, Route, pass_at, pass_steps, performed, total}
use Rattle.planning.specs.Inner.{PassRuns}
use Rattle.bank.proofs.Limits.{Allowed}
use Rattle.moving.proofs.Fits.{Fits}

-- ---- the areas of a pass and of the next

pub read_next : (p : ℕ) → area_read (suc p) ≡ area_written p
read_next p =
    ⊎_elim
    (λ (e : p % 2 ≡ 0). rw (ne_eqb (suc p % 2) 0 (λ q. omega arith), eq-eqb (p % 2) 0 e))
    (λ (n : p % 2 ≡ 0 → ⊥). rw (eq-eqb (suc p % 2) 0 (omega arith), ne_eqb (p % 2) 0 n))
    (same_or (p % 2) 0)

written_next : (p : ℕ) → area_written (suc p) ≡ area_read p
written_next p = ap other_area (read_next p) ∙ twice (area_read p)
  where
    twice : (a : Area) → other_area (other_area a) ≡ a
    twice zeroth = refl
    twice first = refl

-- ---- passes performed

performed_snoc : (a : List Pass) (q : Pass) (x : ℕ) → performed (a ++ (q ∷ [])) x ≡ target q.rows q.complement (performed a x)
unfolding performed
performed_snoc [] q x = refl
performed_snoc (p ∷ ps) q x = performed_snoc ps q (target p.rows p.complement x)

module _ (g : Geometry) (pass : Pass) (k : PassRuns g pass) where
  pub target_in : (x : ℕ) → target pass.rows pass.complement x < records g
  target_in x = target-lt g.n pass.rows k.regular (omega (arith, k.rows_all)) pass.complement x k.complement_below

  source_in : (y : ℕ) → y < records g → source_of g pass y < records g
  source_in y h = source-lt g.n pass.rows k.regular (omega (arith, k.rows_all)) pass.complement y k.complement_below h

-- ---- after k passes

module _ (route : Route) (v₀ : Buffers) where
  abbrev g : Geometry
  g = route.geometry

  -- where record x is after k passes
  abbrev place : ℕ → ℕ → ℕ
  place k x = performed (take k route.passes) x

  record Reached (k : ℕ) (v : Buffers) : Type 0 where
    pub here_long : length (bytes_of (area_read k) v) ≡ records g * g.r
    pub other_long : length (bytes_of (area_written k) v) ≡ records g * g.r
    pub memory_long : length v.memory ≡ memory_size g * g.r
    pub in_area : (x : ℕ) → x < records g → place k x < records g
    pub bytes : (x j : ℕ) → x < records g → j < g.r → get_or (bytes_of (area_read k) v) (place k x * g.r + j) 0 ≡ get_or v₀.area0 (x * g.r + j) 0

  module _ (ok : Allowed g) (runs : (p : ℕ) → p < length route.passes → PassRuns g (pass_at route p)) (fits : Fits g v₀) where
    -- one more pass
    more : (k : ℕ) → k < length route.passes → (x : ℕ) → place (suc k) x ≡ target (pass_at route k).rows (pass_at route k).complement (place k x)
    more k h x =
        ap (λ (l : List Pass). performed l x) (take-suc route.passes k (record { rows = []; complement = 0 }) h)
        ∙ performed_snoc (take k route.passes) (pass_at route k) x

    -- what pass k does
    its_pass : (k : ℕ) → k < length route.passes → Reached k (before_pass route v₀ k)
        → PassDone route (source_of g (pass_at route k)) k (before_pass route v₀ k) (before_pass route v₀ (suc k))
    its_pass k h was = pass_done route ok k v₀ (source_in g (pass_at route k) (runs k h)) was.here_long was.other_long was.memory_long

    reached_next : (k : ℕ) → k < length route.passes → Reached k (before_pass route v₀ k) → Reached (suc k) (before_pass route v₀ (suc k))
    reached_next k h was =
        record {
          here_long = ap (λ (a : Area). length (bytes_of a w)) (read_next k) ∙ done.long ∙ was.other_long;
          other_long = ap (λ (a : Area). length (bytes_of a w)) (written_next k) ∙ done.reads_long ∙ was.here_long;
          memory_long = done.memory_long;
          in_area = λ x hx. subst (λ (y : ℕ). y < records g) (sym (more k h x)) (target_in g q (runs k h) (place k x));
          bytes = λ x j hx hj.
              ap₂ (λ (a : Area) (y : ℕ). get_or (bytes_of a w) (y * g.r + j) 0) (read_next k) (more k h x)
              ∙ done.bytes (target q.rows q.complement (place k x)) j (target_in g q (runs k h) (place k x)) hj
              ∙ ap (λ (y : ℕ). get_or (bytes_of (area_read k) (before_pass route v₀ k)) (y * g.r + j) 0)
              (source-target g.n q.rows q.complement (place k x) (runs k h).regular (was.in_area x hx))
              ∙ was.bytes x j hx hj;
        }
      where
        q : Pass
        q = pass_at route k

        w : Buffers
        w = before_pass route v₀ (suc k)

        done : PassDone route (source_of g q) k (before_pass route v₀ k) w
        done = its_pass k h was

    reached_start : Reached 0 v₀
    unfolding performed
    reached_start =
        record {
          here_long = fits.area0_long;
          other_long = fits.area1_long;
          memory_long = fits.memory_long;
          in_area = λ x hx. hx;
          bytes = λ x j hx hj. refl;
        }

    reached : (k : ℕ) → k ≤ length route.passes → Reached k (before_pass route v₀ k)
    unfolding moves_from
    reached zero h = subst (λ (i : ℕ). Reached 0 (moves_from (move route) 0 i v₀)) (sym (zero-mul (pass_steps route))) reached_start
    reached (suc k) h = reached_next k h (reached k (omega arith))

    -- after a pass with blanks, the area that it read and memory are zero
    pub pass_spent : route.blanks ≡ true → (p : ℕ) → p < length route.passes
        → AllZero (bytes_of (area_read p) (before_pass route v₀ (suc p))) × AllZero (before_pass route v₀ (suc p)).memory
    pass_spent e p h = (done.spent e, done.cleared e)
      where
        done : PassDone route (source_of g (pass_at route p)) p (before_pass route v₀ p) (before_pass route v₀ (suc p))
        done = its_pass p h (reached p (omega arith))

    -- ALL PASSES. The area of the pass count holds, at the place that the passes give, the record that began at x in area 0
    pub all_passes : (x : ℕ) → x < records g
        → record_of g.r (bytes_of (area_read (length route.passes)) (moves_from (move route) 0 (total route) v₀)) (performed route.passes x)
        ≡ record_of g.r v₀.area0 x
    unfolding total
    all_passes x hx =
        ap₂ (λ (i : ℕ) (l : List Pass). record_of g.r (bytes_of (area_read count) (moves_from (move route) 0 i v₀)) (performed l x))
        (mul_comm (pass_steps route) count) (sym (take-length route.passes))
        ∙ same_record g.r (bytes_of (area_read count) (before_pass route v₀ count)) v₀.area0 (records g)
        (place count x) x end.here_long fits.area0_long (end.in_area x hx) hx (λ j hj. end.bytes x j hx hj)
      where
        count : ℕ
        count = length route.passes

        end : Reached count (before_pass route v₀ count)
        end = reached count (le_refl count)
