-- The number of each reason why there is no dump; and which files hold one in a form of their own.
use Rattle.std.specs.Prelude.{ℕ, Option, Some, None, List, [], ◌∷◌, ◌++◌, codes, nat_eq, if◌then◌else◌}
use Rattle.std.specs.List.{starts_with}
use Rattle.bench_file.specs.declared.Unread.{Unread}
use Rattle.bench_file.specs.declared.Unread.TheVariants.{NotFound, Directory, Forbidden, Unreadable, TooLarge, Uf2, Elf}

abbrev pub number_of : Unread → ℕ
number_of NotFound = 108
number_of Directory = 109
number_of Forbidden = 110
number_of Unreadable = 111
number_of TooLarge = 112
number_of Uf2 = 117
number_of Elf = 118

-- a UF2 file begins with UF2 and a line's end, an ELF file with 7f and ELF
abbrev pub form_of : List ℕ → Option Unread
form_of image =
    if starts_with nat_eq image (codes "UF2" ++ (10 ∷ []))
    then Some Uf2
    else (if starts_with nat_eq image (127 ∷ codes "ELF") then Some Elf else None)
