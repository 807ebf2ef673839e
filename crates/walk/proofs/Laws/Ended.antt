-- A failed read of the walk is number 2; each ROM has one name, and no name of a refused walk is shown.
-- Assumes nothing.
use Rattle.std.specs.Prelude.{ℕ, zero, suc, ◌+◌, ◌≡◌, Bool, length}
use Rattle.std.proofs.Common.{add-zero, ap, ◌∙◌}
use mathlib.Core.List.{List, [], ◌∷◌, ◌++◌}
use Rattle.prog.specs.Prog.{Prog, done, run, also, trace, tried, tried_shown, ◌>>=◌}
use Rattle.text.specs.declared.Text.{Text}
use Rattle.prog.proofs.Laws.Run.{run_done, run_map, run_also, trace_done, tried_done, shown_done, run_aside, trace_aside, shown_aside, tried_aside}
use Rattle.prog.proofs.Laws.Honest.{Honest, honest_done, honest_fetch, honest_pick, honest_bind}
use Rattle.header.specs.declared.SdrrInfoFields.{SdrrInfoFields}
use Rattle.walk.specs.Walk.{Rom, RomSet, Part, stop, found, or_stop, rom_p, roms_p, table_p, pointed_p, set_p, sets_p, walk_p}
use Rattle.walk.specs.Names.{name_p, names_p, walk_names_p}

-- 01 coins "ended" ("Window"): number 2
abbrev pub Ended : {A : Type 0} → Part A → Type 0
Ended (stop n roms) = n ≡ 2
Ended (found a) = ⊥

module _ {A B : Type 0} where
  honest_or_stop : (passed : List Rom) {p : Prog (Part A)} {f : A → Prog (Part B)}
      → Honest Ended p → ((a : A) → Honest Ended (f a)) → Honest Ended (p >>= or_stop passed f)
  honest_or_stop passed {f = f} h i = honest_bind h each keep
    where
      each : (o : Part A) → Honest Ended (or_stop passed f o)
      each (stop n roms) = honest_done
      each (found a) = i a

      keep : (o : Part A) → Ended o → (x : List ℕ) → Ended (run (or_stop passed f o) x)
      keep (stop n roms) e x = rw run_done e
      keep (found a) e x = absurd e

ruleset forms = (honest_done, honest_fetch, honest_pick, honest_or_stop)

rom_honest : (base : ℕ) (filenames : Bool) (entry : ℕ) → Honest Ended (rom_p base filenames entry)
unfolding rom_p
rom_honest base filenames entry = search forms depth 9

roms_honest : (left base : ℕ) (filenames : Bool) (entry : ℕ) (passed : List Rom) → Honest Ended (roms_p left base filenames entry passed)
unfolding roms_p
roms_honest zero base filenames entry passed = honest_done
roms_honest (suc left) base filenames entry passed =
    honest_or_stop passed (rom_honest base filenames entry) (λ rom. roms_honest left base filenames (entry + 4) (passed ++ (rom ∷ [])))

table_honest : (base : ℕ) (filenames : Bool) (count table : ℕ) → Honest Ended (table_p base filenames count table)
unfolding table_p
table_honest base filenames count table = search (forms, roms_honest) depth 9

pointed_honest : (base : ℕ) (counts : Bool) (pointer : ℕ) → Honest Ended (pointed_p base counts pointer)
unfolding pointed_p
pointed_honest base counts pointer = search forms depth 9

set_honest : (base : ℕ) (filenames : Bool) (s : List ℕ) → Honest Ended (set_p base filenames s)
unfolding set_p
set_honest base filenames s = search (forms, pointed_honest, table_honest) depth 12

sets_honest : (left base : ℕ) (f : SdrrInfoFields) (address : ℕ) (passed : List RomSet) → Honest Ended (sets_p left base f address passed)
unfolding sets_p
sets_honest zero base f address passed = honest_done
sets_honest (suc left) base f address passed =
    let ih : (a : ℕ) (p : List RomSet) → Honest Ended (sets_p left base f a p) = λ a p. sets_honest left base f a p in
    search (forms, set_honest) depth 9

pub walk_honest : (base : ℕ) (f : SdrrInfoFields) (count pointer : ℕ) → Honest Ended (walk_p base f count pointer)
unfolding walk_p
walk_honest base f count pointer = search (forms, sets_honest) depth 9

-- ---- the names: one for each ROM

pub names_each : (base : ℕ) (rs : List Rom) (x : List ℕ) → length (run (names_p base rs) x) ≡ length rs
unfolding names_p
names_each base [] x = ap length (run_done x [])
names_each base (r ∷ rs) x =
    rw (run_map x (λ (t : Text × List Text). t.0 ∷ t.1) (also (name_p base r.name) λ t. names_p base rs), run_also x (name_p base r.name) (λ t. names_p base rs))
    (ap suc (names_each base rs x))

-- ---- the names of a refused walk: read, and not shown

module _ (base n : ℕ) (passed : List Rom) (x : List ℕ) where
  pub no_name_shown : run (walk_names_p base (stop n passed)) x ≡ []
  unfolding walk_names_p
  no_name_shown = run_aside x (names_p base passed) (done []) ∙ run_done x []

  pub no_name_taken : trace (walk_names_p base (stop n passed)) x ≡ []
  unfolding walk_names_p
  no_name_taken = trace_aside x (names_p base passed) (done []) ∙ trace_done x _

  pub no_name_counted : tried_shown (walk_names_p base (stop n passed)) x ≡ 0
  unfolding walk_names_p
  no_name_counted = shown_aside x (names_p base passed) (done []) ∙ shown_done x _

  pub names_tried : tried (walk_names_p base (stop n passed)) x ≡ tried (names_p base passed) x
  unfolding walk_names_p
  names_tried = tried_aside x (names_p base passed) (done []) ∙ rw (tried_done x _) (add-zero (tried (names_p base passed) x))
