-- What is a pass, what do passes do one after the other, and how many steps have they? Assumes nothing.
use Rattle.std.specs.Prelude.{Bool, cond, List, [], ◌∷◌, ℕ, ◌*◌, ◌/◌, length, get_or}
use Rattle.bank.specs.declared.Geometry.{Geometry}
use Rattle.bank.specs.Geometry.{records, block, drives, tiers}
use Rattle.algebra.specs.Matrix.{target}
use Rattle.planning.specs.declared.Phase.{Phase}
use Rattle.planning.specs.declared.Phase.TheVariants.{Reads, Writes, Blanks}

-- a pass takes x to Fx xor f, where F is its matrix and f its complement
pub record Pass : Type 0 where
  pub rows : List ℕ
  pub complement : ℕ

-- the passes of a plan, first performed first, on the bank that they are for, and whether the spent area is to be blanked
pub record Route : Type 0 where
  pub geometry : Geometry
  pub blanks : Bool
  pub passes : List Pass

-- pass p of a list, or one of no rows where there is none
abbrev pub pass_in : List Pass → ℕ → Pass
pass_in ps p = get_or ps p (record { rows = []; complement = 0 })

abbrev pub pass_at : Route → ℕ → Pass
pass_at route p = pass_in route.passes p

-- where x is after all passes, each with its complement
unfoldable pub performed : List Pass → ℕ → ℕ
performed [] x = x
performed (p ∷ ps) x = performed ps (target p.rows p.complement x)

-- complements are zero but for the last pass, which has c
unfoldable pub complemented : List (List ℕ) → ℕ → List Pass
complemented [] c = []
complemented (f ∷ []) c = record { rows = f; complement = c } ∷ []
complemented (f ∷ (g ∷ fs)) c = record { rows = f; complement = 0 } ∷ complemented (g ∷ fs) c

-- the phases of a memoryload, in their order: the blanks where they are asked for
unfoldable pub phases : Route → List Phase
phases route = cond route.blanks (Reads ∷ Writes ∷ Blanks ∷ []) (Reads ∷ Writes ∷ [])

-- the steps of a memoryload: M/(BD) in each phase
unfoldable pub load_steps : Route → ℕ
load_steps route = length (phases route) * tiers route.geometry

-- the steps of a pass: N/(BD) in each phase
unfoldable pub pass_steps : Route → ℕ
pass_steps route = length (phases route) * records route.geometry / (block route.geometry * drives route.geometry)

-- the total: the steps of a pass times the number of passes
unfoldable pub total : Route → ℕ
total route = pass_steps route * length route.passes
