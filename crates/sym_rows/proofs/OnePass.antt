-- The rows of bytes by one recursion on the bytes, with no count.
use Rattle.std.proofs.Common.{◌≡◌, ◌≤◌, refl, ap, ℕ, zero, suc, ◌+◌, arith, Bool, true, false, if◌then◌else◌, List, [], ◌∷◌, ◌++◌, length, Option, Some, None}
use Rattle.csv.specs.Machine.{Read, ends_at_end, field_after, fields_after, is_end, next_record, step}
use Rattle.csv.specs.Reading.{default_config, records_from, records_next}
use Rattle.csv.specs.declared.parser.Config.{Config}
use Rattle.csv.specs.declared.parser.State.{State}
use Rattle.csv.specs.declared.parser.State.TheVariants as st
use Rattle.csv.specs.declared.parser.Action.{Action}
use Rattle.csv.specs.declared.parser.Action.TheVariants as act
use Rattle.sym_rows.specs.Rows.{Row, rows_of}

-- The fields of the row at hand after an action, none after a row's end.
abbrev pub kept : Action → List (List ℕ) → List ℕ → List (List ℕ)
kept act.EndRecord fields field = []
kept act.EndField fields field = fields ++ (field ∷ [])
kept act.Skip fields field = fields
kept act.Copy fields field = fields

-- A row that an action ends, before the rows after it.
abbrev pub emitted : Action → List (List ℕ) → List ℕ → List Row → List Row
emitted act.EndRecord fields field more = (fields ++ (field ∷ [])) ∷ more
emitted act.EndField fields field more = more
emitted act.Skip fields field more = more
emitted act.Copy fields field more = more

unfoldable pub pass : Config → State → List (List ℕ) → List ℕ → List ℕ → List Row
pass cfg s fields field [] = if ends_at_end s then (fields ++ (field ∷ [])) ∷ [] else []
pass cfg s fields field (c ∷ rest) =
    emitted (step cfg s c).1 fields field (pass cfg (step cfg s c).0 (kept (step cfg s c).1 fields field) (field_after (step cfg s c).1 c field) rest)

nothing_more : (cfg : Config) (n : ℕ) → records_from cfg n st.StartRecord [] ≡ []
unfolding records_from next_record
nothing_more cfg zero = refl
nothing_more cfg (suc n) = refl

last_row : (cfg : Config) (n : ℕ) (fields : List (List ℕ)) (field : List ℕ) (b : Bool)
    → records_next (records_from cfg n) (if b then Some (fields ++ (field ∷ []), st.StartRecord, []) else None) ≡ (if b then (fields ++ (field ∷ [])) ∷ [] else [])
last_row cfg n fields field true = rw (nothing_more cfg n) refl
last_row cfg n fields field false = refl

-- One byte, by its action.
one_byte : (cfg : Config) (m : ℕ) (s : State) (a : Action) (fields : List (List ℕ)) (field : List ℕ) (c : ℕ) (rest : List ℕ)
    → ((n : ℕ) (s : State) (fields : List (List ℕ)) (field : List ℕ) → length rest ≤ n
    → records_next (records_from cfg n) (next_record cfg s fields field rest) ≡ pass cfg s fields field rest)
    → length rest ≤ m
    → records_next (records_from cfg (suc m)) (if is_end a then Some (fields_after a fields field, s, rest) else next_record cfg s (fields_after a fields field) (field_after a c field) rest)
    ≡ emitted a fields field (pass cfg s (kept a fields field) (field_after a c field) rest)
unfolding records_from
one_byte cfg m s act.EndRecord fields field c rest ih h = ap (λ (more : List Row). (fields ++ (field ∷ [])) ∷ more) (ih m s [] [] h)
one_byte cfg m s act.EndField fields field c rest ih h = ih (suc m) s (fields ++ (field ∷ [])) [] (omega arith)
one_byte cfg m s act.Skip fields field c rest ih h = ih (suc m) s fields field (omega arith)
one_byte cfg m s act.Copy fields field c rest ih h = ih (suc m) s fields (field ++ (c ∷ [])) (omega arith)

counted : (cfg : Config) (xs : List ℕ) (n : ℕ) (s : State) (fields : List (List ℕ)) (field : List ℕ) → length xs ≤ n
    → records_next (records_from cfg n) (next_record cfg s fields field xs) ≡ pass cfg s fields field xs
unfolding next_record pass
counted cfg [] n s fields field h = last_row cfg n fields field (ends_at_end s)
counted cfg (c ∷ rest) zero s fields field h = absurd (omega (arith, h))
counted cfg (c ∷ rest) (suc m) s fields field h =
    one_byte cfg m (step cfg s c).0 (step cfg s c).1 fields field c rest (counted cfg rest) (omega (arith, h))

-- So the count makes no difference, where it is above that of the bytes.
pub any_count : (cfg : Config) (n : ℕ) (s : State) (xs : List ℕ) → length xs + 1 ≤ n → records_from cfg n s xs ≡ pass cfg s [] [] xs
unfolding records_from
any_count cfg zero s xs h = absurd (omega (arith, h))
any_count cfg (suc m) s xs h = counted cfg xs m s [] [] (omega (arith, h))

pub one_pass : (xs : List ℕ) → rows_of xs ≡ pass default_config st.StartRecord [] [] xs
one_pass xs = any_count default_config (length xs + 1) st.StartRecord xs (omega arith)

-- There is at most one row more than there are bytes.
few_after : (more : State → List ℕ → List Row) (n : ℕ) (found : Option Read) → ((s : State) (xs : List ℕ) → length (more s xs) ≤ n)
    → length (records_next more found) ≤ suc n
few_after more n None few = omega arith
few_after more n (Some p) few = let rest : length (more p.1 p.2) ≤ n = few p.1 p.2 in omega arith

few_from : (cfg : Config) (n : ℕ) (s : State) (xs : List ℕ) → length (records_from cfg n s xs) ≤ n
unfolding records_from
few_from cfg zero s xs = omega arith
few_from cfg (suc n) s xs = few_after (records_from cfg n) n (next_record cfg s [] [] xs) (few_from cfg n)

pub few_rows : (xs : List ℕ) → length (rows_of xs) ≤ length xs + 1
few_rows xs = few_from default_config (length xs + 1) st.StartRecord xs
