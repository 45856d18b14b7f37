-- What is the listing of a plan? Assumes nothing.
use Rattle.std.specs.Prelude.{cond, List, [], ◌∷◌, ◌++◌, ℕ, suc, leb, length, drop}
use Rattle.planning.specs.declared.Plan.{Plan}
use Rattle.planning.specs.Pass.{Pass, total}
use Rattle.planning.specs.Stored.{route_of}
use Rattle.planning.specs.Running.{sound}
use Rattle.totals.specs.Total.{result_area}
use Rattle.text.specs.Lines.{line, decimal, bits, row_lines}

-- the words of a listing, as bytes, each with its space
abbrev pub passes_word : List ℕ
passes_word = 112 ∷ 97 ∷ 115 ∷ 115 ∷ 101 ∷ 115 ∷ 32 ∷ []

abbrev pub steps_word : List ℕ
steps_word = 115 ∷ 116 ∷ 101 ∷ 112 ∷ 115 ∷ 32 ∷ []

abbrev pub result_word : List ℕ
result_word = 114 ∷ 101 ∷ 115 ∷ 117 ∷ 108 ∷ 116 ∷ 32 ∷ []

abbrev pub pass_word : List ℕ
pass_word = 112 ∷ 97 ∷ 115 ∷ 115 ∷ 32 ∷ []

-- a pass: its number, its n rows, its complement
unfoldable pub pass_lines : ℕ → ℕ → Pass → List ℕ
pass_lines n p pass = line (pass_word ++ decimal p) ++ (row_lines n pass.rows ++ line (bits n pass.complement))

-- the passes, numbered from p on
unfoldable pub passes_lines : ℕ → ℕ → List Pass → List ℕ
passes_lines n p [] = []
passes_lines n p (q ∷ qs) = pass_lines n p q ++ passes_lines n (suc p) qs

-- the three lines before the passes
unfoldable pub head_lines : Plan → List ℕ
head_lines plan =
    line (passes_word ++ decimal plan.count) ++ (line (steps_word ++ decimal (total (route_of plan))) ++ line (result_word ++ decimal (result_area plan)))

-- the passes
abbrev pub tail_lines : Plan → List ℕ
tail_lines plan = passes_lines plan.geometry.n 0 (route_of plan).passes

-- the listing of a plan that can run; a plan that can't has none
unfoldable pub listing : Plan → List ℕ
listing plan = cond (sound plan) (head_lines plan ++ tail_lines plan) []

-- how many bytes are written into a room: all of the listing, or none where it has no room
unfoldable pub written : Plan → List ℕ → ℕ
written plan room = cond (leb (length (listing plan)) (length room)) (length (listing plan)) 0

-- the room afterwards: the listing, and then what was there
unfoldable pub room_after : Plan → List ℕ → List ℕ
room_after plan room = cond (leb (length (listing plan)) (length room)) (listing plan ++ drop (length (listing plan)) room) room
