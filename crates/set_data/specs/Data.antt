-- Document 01, "ROM data": a set's size, and its bytes.
use Rattle.std.specs.Prelude.{ℕ, ◌+◌, not, List, [], ltb, eqb}
use Rattle.base.specs.Choice.{pick}
use Rattle.prog.specs.Prog.{Prog, done, fetch}
use Rattle.rows.specs.LentRows.{data_pointer, size_of, set_number}
use Rattle.refusal.specs.Refusal.{Valued}

-- ---- size

abbrev pub unvalued : ℕ → Valued
unvalued n = record { number = n; value = 0 }

unfoldable pub size_call : (served : ℕ) → List ℕ → ℕ → Valued
size_call served sets i = pick (eqb (set_number served sets i) 0) (record { number = 0; value = size_of sets i }) (unvalued (set_number served sets i))

-- ---- bytes

-- a number, 0 where accepted, and the bytes
pub record Bytes : Type 0 where
  pub number : ℕ
  pub bytes : List ℕ

abbrev pub no_bytes : ℕ → Bytes
no_bytes n = record { number = n; bytes = [] }

-- 80: no such set. 4: its row. 81: offset plus length above set size. 2: ended.
unfoldable pub data_p : ℕ → (served : ℕ) → List ℕ → ℕ → ℕ → ℕ → Prog Bytes
data_p base served sets set offset n =
    pick (not (eqb (set_number served sets set) 0)) (done (no_bytes (set_number served sets set)))
    (pick (ltb (size_of sets set) (offset + n)) (done (no_bytes 81))
    (fetch base (data_pointer sets set + offset) n (no_bytes 2) λ bs. done (record { number = 0; bytes = bs })))
