-- Document 01, "Same set".
use Rattle.std.specs.Prelude.{ℕ, zero, suc, pred, ◌+◌, ◌*◌, Bool, true, false, not, ◌&&◌, ◌||◌, List, [], ◌∷◌, ltb, leb, eqb, length, drop, Result, Ok, Err}
use Rattle.base.specs.Choice.{pick}
use Rattle.rows.specs.declared.RomWord.{RomWord}
use Rattle.rows.specs.LentRows.{rom_row_length, rom_word, has_set_row, first_rom, rom_count, size_of, serve_of}
use Rattle.refusal.specs.declared.Refusal.{Refusal}
use Rattle.refusal.specs.Refusal.{Valued, number_of}
use Rattle.set_data.specs.Data.{unvalued}

-- the types of the first n ROM rows of some words, as far as these go
unfoldable pub types_in : List ℕ → ℕ → List ℕ
types_in words zero = []
types_in [] (suc n) = []
types_in (t ∷ words) (suc n) = t ∷ types_in (drop (pred rom_row_length) words) n

-- the type of a whole row
abbrev pub type_of : List ℕ → ℕ
type_of row = rom_word row 0 RomWord.Type

-- the types of a set's ROM rows, in order
abbrev pub types : (sets roms : List ℕ) → ℕ → List ℕ
types sets roms i = types_in (drop (rom_row_length * first_rom sets i) roms) (rom_count sets i)

unfoldable pub any_above33 : List ℕ → Bool
any_above33 [] = false
any_above33 (t ∷ ts) = ltb 33 t || any_above33 ts

-- 4: the set's row or one of its ROM rows isn't among those lent, or a type is above 33
unfoldable pub bad_set : (sets roms : List ℕ) → ℕ → Bool
bad_set sets roms i =
    not (has_set_row sets i)
    || (ltb 0 (rom_count sets i)
    && (ltb (length roms) (rom_row_length * (first_rom sets i + rom_count sets i)) || any_above33 (types sets roms i)))

-- what two sets are compared by: size, ROM count, serve, every type in order
unfoldable pub compared : (sets roms : List ℕ) → ℕ → List ℕ
compared sets roms i = size_of sets i ∷ rom_count sets i ∷ serve_of sets i ∷ types sets roms i

unfoldable pub equal : List ℕ → List ℕ → Bool
equal [] [] = true
equal [] (b ∷ t) = false
equal (a ∷ s) [] = false
equal (a ∷ s) (b ∷ t) = eqb a b && equal s t

-- 80: either is no set. 4: either set. Then yes (1) exactly if all that is compared agrees.
unfoldable pub same_set : (served : ℕ) → (sets roms : List ℕ) → ℕ → ℕ → Valued
same_set served sets roms a b =
    pick (leb served a || leb served b) (unvalued 80)
    (pick (bad_set sets roms a || bad_set sets roms b) (unvalued 4)
    (record { number = 0; value = pick (equal (compared sets roms a) (compared sets roms b)) 1 0 }))

-- what the code answers, as a number and a value
abbrev pub same_item : Result Bool Refusal → Valued
same_item (Ok same) = record { number = 0; value = pick same 1 0 }
same_item (Err r) = unvalued (number_of r)
