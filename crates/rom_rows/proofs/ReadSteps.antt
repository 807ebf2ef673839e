-- The reply of the whole walk, and the rows as it leaves them.
-- Assumes nothing.
use Prim.Native.Nat.{ℕ, ◌*◌, ◌≤◌, ◌<◌}
use mathlib.Core.Path.{◌≡◌, refl, ap, sym, subst, ◌∙◌}
use mathlib.Core.Bool.{Bool}
use mathlib.Core.List.{List}
use lib.ListN.{length}
use borrow.Author.Tests.{lt-ltb, le-ltb}
use Rattle.prog.specs.Prog.{run}
use Rattle.rows.specs.LentRows.{set_row_length, rom_row_length}
use Rattle.text.specs.declared.Text.{Text}
use Rattle.header.specs.declared.SdrrInfoFields.{SdrrInfoFields}
use Rattle.version.specs.Version.{from060}
use Rattle.header.specs.Header.{has_filenames}
use Rattle.walk.specs.Walk.{RomSet, Part, stop, found, roms_of, walk_p}
use Rattle.walk.specs.Names.{names_p, walk_names_p}
use Rattle.walk.specs.Rows.{set_rows_of, rom_rows_of, overwritten}
use Rattle.walk.specs.Code.Passes.{sets_at}
use Rattle.walk.proofs.Laws.Passes.{sets_length}
use Rattle.judge_walk.specs.Code.{judged_of}
use Rattle.judge_walk.proofs.Laws.{walk_found}
use Rattle.rom_rows.specs.Reply.{Walked, refused_walk, walk_reply, walk_set_rows, walk_rom_rows}
use Rattle.write_rows.specs.Code.{named_rows, rows_named}

-- a reply with both rows, as the walk w and its names leave them
pub record Leaves (w : Part (List RomSet)) (names : List Text) (ls lr : List ℕ) (r : Walked) (s t : List ℕ) : Type 0 where
  pub reply : r ≡ walk_reply w (length ls) (length lr)
  pub sets : s ≡ walk_set_rows w (length lr) ls
  pub roms : t ≡ walk_rom_rows w names (length ls) lr

module _ {names : List Text} (ls lr : List ℕ) where
  refused : (w : Part (List RomSet)) (n : ℕ) → refused_walk n ≡ judged_of w → (n ≡ 0 → ⊥) → Leaves w names ls lr (refused_walk n) ls lr
  unfolding judged_of walk_reply walk_set_rows walk_rom_rows
  refused (stop m passed) n e h = record { reply = e; sets = refl; roms = refl }
  refused (found ss) n e h = absurd (h (ap (λ (w : Walked). w.number) e))

  module _ (ss : List RomSet) where
    short_sets_is : length ls < set_row_length * length ss → Leaves (found ss) names ls lr (refused_walk 44) ls lr
    unfolding walk_reply walk_set_rows walk_rom_rows
    short_sets_is h = let e = lt-ltb (length ls) (set_row_length * length ss) h in record { reply = rw e; sets = rw e; roms = rw e }

    module _ (h : set_row_length * length ss ≤ length ls) where
      short_roms_is : length lr < rom_row_length * length (roms_of ss) → Leaves (found ss) names ls lr (refused_walk 45) ls lr
      unfolding walk_reply walk_set_rows walk_rom_rows
      short_roms_is i =
          let e = le-ltb (length ls) (set_row_length * length ss) h in
          let f = lt-ltb (length lr) (rom_row_length * length (roms_of ss)) i in
          record { reply = rw (e, f); sets = rw (e, f); roms = rw (e, f) }

      written : rom_row_length * length (roms_of ss) ≤ length lr
          → Leaves (found ss) names ls lr (record { number = 0; rom_count = length (roms_of ss) }) (overwritten (set_rows_of ss) ls) (overwritten (rom_rows_of (roms_of ss) names) lr)
      unfolding walk_reply walk_set_rows walk_rom_rows
      written i =
          let e = le-ltb (length ls) (set_row_length * length ss) h in
          let f = le-ltb (length lr) (rom_row_length * length (roms_of ss)) i in
          record { reply = rw (e, f); sets = rw (e, f); roms = rw (e, f) }

-- ---- as the code goes through it

module _ (x : List ℕ) (base : ℕ) (f : SdrrInfoFields) (count pointer : ℕ) (ls lr : List ℕ) where
  abbrev walk : Part (List RomSet)
  walk = run (walk_p base f count pointer) x

  abbrev ss : List RomSet
  ss = sets_at x base (has_filenames f) (from060 f.version) pointer count

  abbrev Leaving : Part (List RomSet) → Walked → List ℕ → List ℕ → Type 0
  Leaving w r s t = Leaves w (run (walk_names_p base w) x) ls lr r s t

  pub left_refused : (n : ℕ) → refused_walk n ≡ judged_of walk → (n ≡ 0 → ⊥) → Leaving walk (refused_walk n) ls lr
  left_refused n e h = refused ls lr walk n e h

  module _ (roms : ℕ) (v : record { number = 0; rom_count = roms } ≡ judged_of walk) where
    is_found : walk ≡ found ss
    is_found = walk_found x base f count pointer (sym (ap (λ (w : Walked). w.number) v))

    counted : roms ≡ length (roms_of ss)
    unfolding judged_of
    counted = ap (λ (w : Walked). w.rom_count) (v ∙ ap judged_of is_found)

    as_found : (r : Walked) (s t : List ℕ) → Leaving (found ss) r s t → Leaving walk r s t
    as_found r s t l = subst (λ (w : Part (List RomSet)). Leaving w r s t) (sym is_found) l

    many : length ss ≡ count
    many = sets_length x base (has_filenames f) (from060 f.version) pointer count

    pub left_44 : length ls < set_row_length * count → Leaving walk (refused_walk 44) ls lr
    left_44 h = as_found _ _ _ (short_sets_is ls lr ss (rw many h))

    module _ (h : set_row_length * count ≤ length ls) where
      pub left_45 : length lr < rom_row_length * roms → Leaving walk (refused_walk 45) ls lr
      left_45 i = as_found _ _ _ (short_roms_is ls lr ss (rw many h) (rw counted at i))

      module _ (i : rom_row_length * roms ≤ length lr) (filenames long : Bool) (a : filenames ≡ has_filenames f) (b : long ≡ from060 f.version) where
        pub enough : rom_row_length * length (roms_of (sets_at x base filenames long pointer count)) ≤ length lr
        enough = rw (a, b) (rw counted at i)

        pub left_written : (s t : List ℕ) → s ≡ overwritten (set_rows_of (sets_at x base filenames long pointer count)) ls
            → t ≡ overwritten (named_rows x base (roms_of (sets_at x base filenames long pointer count))) lr → Leaving walk (record { number = 0; rom_count = roms }) s t
        unfolding walk_names_p
        left_written s t d e =
            let k : s ≡ overwritten (set_rows_of ss) ls = d ∙ rw (a, b) in
            let m : t ≡ overwritten (rom_rows_of (roms_of ss) (run (names_p base (roms_of ss)) x)) lr = e ∙ rw (a, b, rows_named x base (roms_of ss)) in
            rw (k, m, counted) (as_found _ _ _ (written ls lr ss (rw many h) (rw counted at i)))
