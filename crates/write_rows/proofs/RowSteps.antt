-- What the code that writes rows does to them, step by step.
-- Assumes nothing.
use Prim.Native.Nat.{ℕ, zero, suc, ◌+◌, ◌-◌, ◌*◌, ◌≤◌, ◌<◌}
use native.Mathlib.Omega.{arith}
use native.Mathlib.Nat.{add-zero}
use native.Mathlib.Numerals.{add-one}
use mathlib.Core.Path.{◌≡◌, refl, sym, ap, ◌∙◌}
use mathlib.Core.Bool.{Bool, true, false, not, ◌&&◌, ◌||◌}
use mathlib.Core.List.{List, [], ◌∷◌, ◌++◌, append_assoc, append-nil}
use lib.Dec.{eqb, ltb}
use lib.ListN.{length, drop, length-append, length-take, drop_of_length-le}
use lib.Seq.{paste, take_at, drop_at, drop-drop}
use borrow.Rule.Slice.PartMut.{put_mid}
use Rattle.std.proofs.lemmas.List.Edits.{paste_none, paste_more, paste_all}
use Rattle.base.specs.Choice.{pick}
use Rattle.window.specs.Window.{on_from}
use Rattle.le.specs.Le.{u8_at, u32_at}
use Rattle.prog.specs.Prog.{run}
use Rattle.prog.proofs.Laws.Run.{run_done}
use Rattle.rows.specs.LentRows.{set_row_length, rom_row_length}
use Rattle.text.specs.declared.Text.{Text}
use Rattle.text.specs.Text.{refused_text, text_p}
use Rattle.walk.specs.Walk.{no_name, name_at, RomSet, rom_of, roms_of}
use Rattle.walk.specs.Names.{name_p}
use Rattle.set_header.specs.SetHeader.{info_pointer}
use Rattle.walk.specs.Rows.{set_row, counts_of, set_rows_after, set_rows_of, overwritten}
use Rattle.walk.specs.Code.Passes.{rom_at, roms_at, set_of, part_roms, set_address, sets_at}
use Rattle.write_rows.specs.Code.{set_row_words, rom_row_words, set_words, rom_words, named_row, named_rows, named_append, named_row_length, named_length}
use Rattle.set_header.specs.Laws.{stride_bound}
use Rattle.walk.proofs.Laws.Passes.{roms_in, roms_length, sets_length}
use Rattle.walk.proofs.Laws.Rows.{set_row_length_is, set_rows_length, set_rows_more, roms_more}
use Rattle.walk.proofs.Laws.Total.{sets_more, total_roms, total_step, total_within, address_step, address_bound}

-- ---- a ROM's name and row

module _ (x : List ℕ) (base : ℕ) (filenames : Bool) (s : List ℕ) (p : ℕ) (v : p ≡ u32_at s 4)
    (b : Bool) (w : b ≡ (filenames && not (ltb p base || eqb p 4294967295))) where
  named : (rom_of base filenames s).name ≡ pick b (name_at p) no_name
  unfolding rom_of
  named = rw (w, ← v) (go filenames (ltb p base || eqb p 4294967295))
    where
      go : (f away : Bool) → pick f (pick away no_name (name_at p)) no_name ≡ pick (f && not away) (name_at p) no_name
      go true true = refl
      go true false = refl
      go false away = refl

  pub name_there : b ≡ true → (t : Text) → t ≡ run (text_p base p) x → t ≡ run (name_p base (rom_of base filenames s).name) x
  unfolding name_p
  name_there e t f = rw (named, e) f

  pub name_missing : b ≡ false → refused_text 1 ≡ run (name_p base (rom_of base filenames s).name) x
  unfolding name_p
  name_missing e = rw (named, e) (sym (run_done x (refused_text 1)))

pub row_named : (x : List ℕ) (base : ℕ) (filenames : Bool) (entry p : ℕ) → p ≡ info_pointer x base entry → (s : List ℕ) → s ≡ on_from x base p
    → (t : Text) → t ≡ run (name_p base (rom_of base filenames s).name) x → (r : List ℕ) → r ≡ rom_row_words s t → r ≡ named_row x base (rom_at x base filenames entry)
unfolding named_row rom_at
row_named x base filenames entry p v s w t f r g = rw (← v, ← w, ← f) (g ∙ sym (rom_words base filenames s t))

pub ruleset named_steps = (name_there, name_missing, row_named)

-- ---- a row's words

pub words_all : (l ws : List ℕ) (i : ℕ) → length l ≡ length ws → i ≡ length ws → paste l 0 ws i ≡ ws
words_all l ws i e h =
    let d : drop (0 + i) l ≡ [] = drop_of_length-le l (omega arith) in
    paste_all l 0 ws i h ∙ rw (d, append-nil ws)

pub ruleset words_steps = (paste_none, paste_more, words_all)

-- ---- rows put in behind those that are written

module _ (ws r l : List ℕ) (a : ℕ) (v : length ws ≡ a) where
  rest : drop a (overwritten ws l) ≡ drop a l
  rest = drop_at ws (drop (length ws) l) a v ∙ rw v

  row_put : (k : ℕ) → length r ≡ k → put_mid a k (overwritten ws l) r ≡ overwritten (ws ++ r) l
  row_put k w =
      rw (take_at ws (drop (length ws) l) a v, rest, drop-drop k a l, append_assoc ws r (drop (length (ws ++ r)) l), length-append ws r, v, w)

  -- the same where they were put into that part by themselves
  part_put : (k : ℕ) → length r ≡ k → (p : List ℕ) → length p ≤ k → put_mid a k (overwritten ws l) (overwritten r p) ≡ overwritten (ws ++ r) l
  part_put k w p h = let d : drop (length r) p ≡ [] = drop_of_length-le p (rw w h) in rw (d, append-nil r) (row_put k w)

-- ---- so many ROM rows

module _ (x : List ℕ) (base : ℕ) (filenames : Bool) where
  roms_snoc : (entry k : ℕ) → roms_at x base filenames entry (suc k) ≡ roms_at x base filenames entry k ++ (rom_at x base filenames (entry + 4 * k) ∷ [])
  unfolding roms_at
  roms_snoc entry zero = rw add-zero
  roms_snoc entry (suc k) =
      let e : entry + 4 + 4 * k ≡ entry + 4 * suc k = omega arith in
      ap (λ rs. rom_at x base filenames entry ∷ rs) (rw e at (roms_snoc (entry + 4) k))

  -- the rows of the first k ROMs of a table
  abbrev pub rows_at : ℕ → ℕ → List ℕ
  rows_at table k = named_rows x base (roms_at x base filenames table k)

  rows_length : (table k : ℕ) → length (rows_at table k) ≡ rom_row_length * k
  rows_length table k = named_length x base (roms_at x base filenames table k) ∙ rw (roms_length x base filenames table k)

  pub roms_none : (table : ℕ) (l : List ℕ) → l ≡ overwritten (rows_at table 0) l
  unfolding named_rows roms_at
  roms_none table l = refl

  pub roms_write : (table k : ℕ) (l₀ l r : List ℕ) → l ≡ overwritten (rows_at table k) l₀ → r ≡ named_row x base (rom_at x base filenames (table + 4 * k))
      → put_mid (rom_row_length * k) (rom_row_length * (k + 1) - rom_row_length * k) l r ≡ overwritten (rows_at table (k + 1)) l₀
  unfolding named_rows
  roms_write table k l₀ l r e f =
      let q = rom_at x base filenames (table + 4 * k) in
      let n = named_row_length x base q in
      let w : length r ≡ rom_row_length * (k + 1) - rom_row_length * k = rw f (omega (arith, n)) in
      let p = row_put (rows_at table k) r l₀ (rom_row_length * k) (rows_length table k) (rom_row_length * (k + 1) - rom_row_length * k) w in
      let g : rows_at table (k + 1) ≡ rows_at table k ++ r = rw (add-one k, roms_snoc table k, named_append x base (roms_at x base filenames table k) (q ∷ []), append-nil (named_row x base q), f) in
      rw (e, g) p

pub ruleset roms_steps = (roms_none, roms_write)

-- ---- so many sets

module _ (x : List ℕ) (base : ℕ) (filenames long : Bool) (pointer : ℕ) where
  pub no_sets : (l : List ℕ) → l ≡ overwritten (set_rows_of (sets_at x base filenames long pointer 0)) l
  unfolding set_rows_after sets_at
  no_sets l = refl

  pub no_roms : (l : List ℕ) → l ≡ overwritten (named_rows x base (roms_of (sets_at x base filenames long pointer 0))) l
  unfolding named_rows roms_of sets_at
  no_roms l = refl

  pub no_total : 0 ≡ counts_of (sets_at x base filenames long pointer 0)
  unfolding counts_of sets_at
  no_total = refl

  pub at_pointer : pointer ≡ set_address x base long pointer 0
  unfolding set_address
  at_pointer = refl

-- set i, taken on where the earlier sets have `total` ROMs: where it stands, and its part of the image
module _ (x : List ℕ) (base : ℕ) (filenames long : Bool) (pointer i address : ℕ) (v : address ≡ set_address x base long pointer i)
    (s : List ℕ) (w : s ≡ on_from x base address) (total : ℕ) (e : total ≡ counts_of (sets_at x base filenames long pointer i)) where
  abbrev earlier : List RomSet
  earlier = sets_at x base filenames long pointer i

  abbrev one : RomSet
  one = set_of s (part_roms x base filenames s)

  -- the rows of the sets up to this one lie within those of all
  pub roms_fit : (n next : ℕ) → n ≡ u8_at s 12 → next ≡ total + n → (count : ℕ) → i < count → next ≤ roms_in x base filenames long pointer count
  roms_fit n next f g count h =
      let t = total_step x base filenames long pointer i address v s w total n e f in
      let u = total_within x base filenames long (i + 1) count pointer (omega arith) in
      omega (arith, t, u, g)

  pub sets_write : (l₀ l r : List ℕ) → l ≡ overwritten (set_rows_of earlier) l₀ → r ≡ set_row_words total s
      → put_mid (set_row_length * i) (set_row_length * (i + 1) - set_row_length * i) l r ≡ overwritten (set_rows_of (sets_at x base filenames long pointer (i + 1))) l₀
  sets_write l₀ l r h f =
      let row : r ≡ set_row (counts_of earlier) one = f ∙ rw e (sym (set_words (counts_of earlier) s (part_roms x base filenames s))) in
      let n = set_row_length_is (counts_of earlier) one in
      let m : length (set_rows_of earlier) ≡ set_row_length * i = set_rows_length earlier ∙ rw (sets_length x base filenames long pointer i) in
      let k : length r ≡ set_row_length * (i + 1) - set_row_length * i = rw row (omega (arith, n)) in
      rw (sets_more x base filenames long pointer i address v s w, set_rows_more earlier one, ← row, h) (row_put (set_rows_of earlier) r l₀ (set_row_length * i) m _ k)

  pub all_write : (l₀ l : List ℕ) → l ≡ overwritten (named_rows x base (roms_of earlier)) l₀ → (t n next : ℕ) → t ≡ u32_at s 8 → n ≡ u8_at s 12 → next ≡ total + n
      → (p k : List ℕ) → length p ≤ rom_row_length * next - rom_row_length * total → k ≡ overwritten (named_rows x base (roms_at x base filenames t n)) p
      → put_mid (rom_row_length * total) (rom_row_length * next - rom_row_length * total) l k
      ≡ overwritten (named_rows x base (roms_of (sets_at x base filenames long pointer (i + 1)))) l₀
  unfolding set_of
  all_write l₀ l h t n next f g j p k d q =
      let rs = roms_at x base filenames t n in
      let r = named_rows x base rs in
      let m : length (named_rows x base (roms_of earlier)) ≡ rom_row_length * total = named_length x base (roms_of earlier) ∙ rw (e, total_roms x base filenames long i pointer) in
      let b : length r ≡ rom_row_length * next - rom_row_length * total = named_length x base rs ∙ rw (roms_length x base filenames t n) (omega (arith, j)) in
      let z : part_roms x base filenames s ≡ rs = rw (f, g) in
      rw (sets_more x base filenames long pointer i address v s w, roms_more earlier one, z, named_append x base (roms_of earlier) rs, h, q)
      (part_put (named_rows x base (roms_of earlier)) r l₀ (rom_row_length * total) m (rom_row_length * next - rom_row_length * total) b p d)

pub ruleset sets_steps = (no_sets, no_roms, no_total, at_pointer, sets_write, all_write, total_step, address_step, address_bound, stride_bound, length-take)
