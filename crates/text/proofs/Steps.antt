-- What the code's test says of the definition.
-- Assumes nothing.
use Prim.Native.Nat.{ℕ, ◌+◌, ◌-◌, ◌≤◌}
use mathlib.Core.Path.{◌≡◌, sym, ◌∙◌}
use mathlib.Core.List.{List}
use lib.ListN.{length, take, drop}
use Rattle.window.specs.Laws.{part}
use Rattle.text.specs.Text.{part_of}
use Rattle.text.proofs.Laws.Chunks.{part_inside}
use Rattle.text.specs.declared.Text.{Text as Str}

-- a part `&image[from..to]`, as the code has it
pub part_held : (x : List ℕ) (t : Str) → t.offset + t.length ≤ length x → take (t.offset + t.length - t.offset) (drop t.offset x) ≡ part_of x t
part_held x t h = part t.offset t.length x ∙ sym (part_inside x t h)
