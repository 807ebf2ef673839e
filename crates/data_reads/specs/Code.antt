-- ROM data as the code goes about it: where the bytes start, then the count.
use Rattle.std.specs.Prelude.{ℕ, List}
use Rattle.base.specs.Choice.{pick}
use Rattle.window.specs.Window.{base_after, beyond_window}
use Rattle.info.specs.Lent.{Lent}
use Rattle.set_data.specs.declared.Found.{Found}
use Rattle.set_data.specs.Code.{set_data, not_found, found_of}

unfoldable pub placed_of : (flash_base cs0_base : ℕ) → Lent → ℕ → ℕ → ℕ → List ℕ → Found
placed_of flash_base cs0_base l set offset n x =
    pick (beyond_window flash_base cs0_base x) (not_found 1) (found_of x (base_after flash_base cs0_base l.line) (set_data l.served l.set_words set) offset n)
