-- Document 01, "Report": names. A ROM's name is an item beside the sets item, and what it is refused with is the reason in its row.
use Rattle.std.specs.Prelude.{ℕ, List, [], ◌∷◌}
use Rattle.prog.specs.Prog.{Prog, done, also, map_p, aside}
use Rattle.text.specs.declared.Text.{Text}
use Rattle.text.specs.Text.{text_p, refused_text}
use Rattle.walk.specs.Walk.{NameAt, no_name, name_at, Rom, RomSet, Part, stop, found, roms_of}

-- a missing name is reason 1 without a read
unfoldable pub name_p : ℕ → NameAt → Prog Text
name_p base no_name = done (refused_text 1)
name_p base (name_at pointer) = text_p base pointer

unfoldable pub names_p : ℕ → List Rom → Prog (List Text)
names_p base [] = done []
names_p base (r ∷ rs) = map_p (λ t. t.0 ∷ t.1) (also (name_p base r.name) λ t. names_p base rs)

-- Names of an accepted walk are items. Those read in a refused walk are reads that are not shown.
unfoldable pub walk_names_p : ℕ → Part (List RomSet) → Prog (List Text)
walk_names_p base (stop n passed) = aside (names_p base passed) (done [])
walk_names_p base (found ss) = names_p base (roms_of ss)
