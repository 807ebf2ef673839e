-- The walk that metadata leaves and the sets item, in the terms of the code.
-- Assumes nothing.
use Rattle.std.specs.Prelude.{ℕ, ◌≡◌, Bool, Result, List, [], length}
use Rattle.std.proofs.Common.{arith, sym, subst, ◌∙◌, ne_eqb}
use Rattle.std.proofs.Math.Path.{refl, ap}
use Rattle.std.proofs.Math.Bool.{true, false}
use Rattle.base.specs.Laws.{cases}
use Rattle.base.specs.Choice.{pick}
use Rattle.prog.specs.Prog.{done, run}
use Rattle.prog.proofs.Laws.Run.{run_done, run_map}
use Rattle.refusal.specs.declared.Refusal.{Refusal}
use Rattle.refusal.specs.Refusal.{refused_number}
use Rattle.header.specs.declared.SdrrInfoFields.{SdrrInfoFields}
use Rattle.header.specs.declared.SdrrInfoHeader.{SdrrInfoHeader}
use Rattle.judge_walk.specs.Code.{item_number}
use Rattle.walk.specs.Walk.{Rom, RomSet, Part, stop, found, walk_p}
use Rattle.walk.specs.Names.{walk_names_p}
use Rattle.walk.proofs.Laws.Numbers.{Numbered, walk_numbered}
use Rattle.rom_rows.specs.Reply as rows
use Rattle.sets_source.specs.Looked.{Looked, set_count, sets_pointer, metadata_ended}
use Rattle.sets_source.specs.Code.{SourceShown, source_of}
use Rattle.sets_item.specs.Sets.{counted, sets_item_p, sets_item}
use Rattle.sets_item.specs.Code.{walk_of, item_of}

-- ---- the walk that metadata leaves

module _ (x : List ℕ) (base : ℕ) (f : SdrrInfoFields) (s : SourceShown) where
  walk_ended : s.ended ≡ true → walk_of base f s x ≡ stop 2 []
  unfolding walk_of
  walk_ended e = rw e

  walk_made : s.ended ≡ false → walk_of base f s x ≡ run (walk_p base f s.rom_set_count s.rom_sets_ptr) x
  unfolding walk_of
  walk_made e = rw e

  -- the walk's number, and both rows as it leaves them
  pub record Walks (ls lr : List ℕ) (v : ℕ) (t u : List ℕ) : Type 0 where
    pub reply : v ≡ (rows.walk_reply (walk_of base f s x) (length ls) (length lr)).number
    pub set_rows : t ≡ rows.walk_set_rows (walk_of base f s x) (length lr) ls
    pub rom_rows : u ≡ rows.walk_rom_rows (walk_of base f s x) (run (walk_names_p base (walk_of base f s x)) x) (length ls) lr

  module _ (ls lr : List ℕ) where
    -- by what the walk is
    walks : (w : Part (List RomSet)) → walk_of base f s x ≡ w → (v : ℕ) (t u : List ℕ) → v ≡ (rows.walk_reply w (length ls) (length lr)).number
        → t ≡ rows.walk_set_rows w (length lr) ls → u ≡ rows.walk_rom_rows w (run (walk_names_p base w) x) (length ls) lr → Walks ls lr v t u
    walks w e v t u k g h = record { reply = rw e k; set_rows = rw e g; rom_rows = rw e h }

    pub by_ended : s.ended ≡ true → Walks ls lr 2 ls lr
    unfolding rows.walk_reply rows.walk_set_rows rows.walk_rom_rows
    by_ended e = walks (stop 2 []) (walk_ended e) 2 ls lr refl refl refl

    pub by_made : s.ended ≡ false → (r : rows.Walked) (t u : List ℕ) → r ≡ rows.walk_reply (run (walk_p base f s.rom_set_count s.rom_sets_ptr) x) (length ls) (length lr)
        → t ≡ rows.walk_set_rows (run (walk_p base f s.rom_set_count s.rom_sets_ptr) x) (length lr) ls
        → u ≡ rows.walk_rom_rows (run (walk_p base f s.rom_set_count s.rom_sets_ptr) x) (run (walk_names_p base (run (walk_p base f s.rom_set_count s.rom_sets_ptr) x)) x) (length ls) lr
        → Walks ls lr r.number t u
    by_made e r t u k g h = walks (run (walk_p base f s.rom_set_count s.rom_sets_ptr) x) (walk_made e) r.number t u (ap (λ (w : rows.Walked). w.number) k) g h

  pub left_numbered : Numbered (walk_of base f s x)
  left_numbered =
      cases s.ended
      (λ e. subst Numbered (sym (walk_ended e)) ((λ (z : ◌≡◌ {A = ℕ} 2 0). omega arith), omega arith))
      (λ e. subst Numbered (sym (walk_made e)) (walk_numbered x base f s.rom_set_count s.rom_sets_ptr))

-- ---- the item of a walk's number

-- the number of a reply, in the report's terms
pub walk_number_is : (r : Result ℕ Refusal) (v : ℕ) (q : rows.Walked) → v ≡ refused_number r → rows.walk_item r ≡ q → v ≡ q.number
walk_number_is r v q e f = e ∙ sym (item_number r) ∙ ap (λ (w : rows.Walked). w.number) f

pub item_refused : (count k : ℕ) (passed : List Rom) → (k ≡ 0 → ⊥) → sets_item count (stop k passed) ≡ item_of k count
unfolding item_of
item_refused count k passed h = rw (ne_eqb k 0 h) refl

pub item_accepted : (count : ℕ) (ss : List RomSet) → sets_item count (found ss) ≡ item_of 0 count
unfolding item_of
item_accepted count ss = refl

-- ---- the item's reads

module _ (x : List ℕ) (base : ℕ) (h : SdrrInfoHeader) (look : Looked) where
  pub sets_run : run (sets_item_p base h look) x ≡ counted (set_count h look) (walk_of base h.fields (source_of h look) x)
  unfolding sets_item_p walk_of
  sets_run =
      run_map x (counted (set_count h look)) (pick (metadata_ended look) (done (stop 2 [])) (walk_p base h.fields (set_count h look) (sets_pointer h look)))
      ∙ ap (counted (set_count h look)) (go (metadata_ended look))
    where
      go : (b : Bool) → run (pick b (done (stop 2 [])) (walk_p base h.fields (set_count h look) (sets_pointer h look))) x
          ≡ pick b (stop 2 []) (run (walk_p base h.fields (set_count h look) (sets_pointer h look)) x)
      go true = run_done {A = Part (List RomSet)} x (stop 2 [])
      go false = refl
