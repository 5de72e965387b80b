-- The rows that a reader has left, after each read.
use Rattle.std.proofs.Common.{◌≡◌, ◌∙◌, ◌≤◌, refl, sym, ap, ap₂, ℕ, zero, suc, ◌-◌, ◌<◌, arith, Bool, true, false, List, [], ◌∷◌, length, Option, Some, None, Ok, inl}
use Rattle.std.specs.Option.{unwrap_or}
use Rattle.csv.specs.Machine.{Read, next_record}
use Rattle.csv.specs.Reading.{default_config, is_flexible, took_first, Reached, ReadRecord, reader_state, records_from, records_next, source_of}
use Rattle.csv.specs.declared.parser.Config.{Config}
use Rattle.csv.specs.declared.parser.State.{State}
use Rattle.csv.specs.declared.reader.Reader.{Reader}
use Rattle.csv.proofs.ReadFacts.{rows-more, rows-end}
use Rattle.sym_table.specs.declared.reader.Stage.{Stage}
use Rattle.sym_table.specs.declared.reader.Stage.TheVariants as stage
use Rattle.sym_table.specs.Reading.{IsReader, IsReading, Reads, ReadsRecord, Row, rows_left}

one_row : (cfg : Config) (n : ℕ) (s s2 : State) (xs ys : List ℕ) (row : Row)
    → Reached cfg s xs (row ∷ []) s2 ys → records_from cfg (suc n) s xs ≡ row ∷ records_from cfg n s2 ys
unfolding Reached records_from
one_row cfg n s s2 xs ys row r = rw (r.1, ← r.2, r.3.0, r.3.1) refl

no_row : (cfg : Config) (n : ℕ) (s : State) (xs : List ℕ) → next_record cfg s [] [] xs ≡ None → records_from cfg n s xs ≡ []
unfolding records_from
no_row cfg zero s xs e = refl
no_row cfg (suc n) s xs e = rw e refl

few_after : (more : State → List ℕ → List Row) (n : ℕ) (found : Option Read) → ((s : State) (xs : List ℕ) → length (more s xs) ≤ n)
    → length (records_next more found) ≤ suc n
few_after more n None few = omega arith
few_after more n (Some p) few = let rest : length (more p.1 p.2) ≤ n = few p.1 p.2 in omega arith

pub few_rows : (cfg : Config) (n : ℕ) (s : State) (xs : List ℕ) → length (records_from cfg n s xs) ≤ n
unfolding records_from
few_rows cfg zero s xs = omega arith
few_rows cfg (suc n) s xs = few_after (records_from cfg n) n (next_record cfg s [] [] xs) (few_rows cfg n)

pub no_rows : (cfg : Config) (s : State) (xs : List ℕ) → records_from cfg 0 s xs ≡ []
unfolding records_from
no_rows cfg s xs = refl

-- What a read that found a row leaves.
pub record AfterRow {R : Type 0} (rem : R → Option (List ℕ)) (most : ℕ) (old new : Reader R) (row : Row) : Type 0 where
  pub bytes : List ℕ
  pub source : source_of rem new ≡ Some bytes
  pub rows : records_from default_config most (reader_state old) (unwrap_or (source_of rem old) [])
      ≡ row ∷ records_from default_config (most - 1) (reader_state new) (unwrap_or (source_of rem new) [])

at_source : {A : Type 0} (o : Option (List A)) (xs : List A) → o ≡ Some xs → unwrap_or o [] ≡ xs
at_source o xs e = rw e refl

pub row_read : {R : Type 0} (rem : R → Option (List ℕ)) (most : ℕ) (old new : Reader R) (row : Row)
    → 0 < most → IsReading rem old → ReadRecord rem old new true row → AfterRow rem most old new row
unfolding Reached
row_read rem zero old new row h is read = absurd (omega (arith, h))
row_read rem (suc n) old new row h is read =
    let more = rows-more rem old new row default_config (reader_state old) is.bytes is.bytes [] is.config is.source (refl, refl) read in
    record {
      bytes = more.0;
      source = more.1;
      rows =
          ap (records_from default_config (suc n) (reader_state old)) (at_source (source_of rem old) is.bytes is.source)
          ∙ one_row default_config n (reader_state old) (reader_state new) is.bytes more.0 row more.2
          ∙ ap₂ (λ m ys. row ∷ records_from default_config m (reader_state new) ys) (omega arith) (sym (at_source (source_of rem new) more.0 more.1));
    }

pub end_read : {R : Type 0} (rem : R → Option (List ℕ)) (most : ℕ) (old new : Reader R) (row : Row)
    → IsReading rem old → ReadRecord rem old new false row
    → records_from default_config most (reader_state old) (unwrap_or (source_of rem old) []) ≡ []
end_read rem most old new row is read =
    rw (at_source (source_of rem old) is.bytes is.source)
    (no_row default_config most (reader_state old) is.bytes (rows-end rem old new row default_config is.bytes is.config is.source read))

-- What a read of a record leaves.
pub record_read : {R : Type 0} (rem : R → Option (List ℕ)) (old new : Reader R) (row : Row) (found : Bool)
    → IsReading rem old → ReadRecord rem old new found row → took_first new ≡ true → is_flexible new ≡ is_flexible old
    → ReadsRecord rem old new row (Ok found)
unfolding Reached
record_read rem old new row true is read first flexible =
    let more = rows-more rem old new row default_config (reader_state old) is.bytes is.bytes [] is.config is.source (refl, refl) read in (
      record {
        no_trim = read.3 ∙ is.no_trim;
        config = read.2 ∙ is.config;
        ready = inl first;
        flexible = flexible ∙ is.flexible;
        bytes = more.0;
        source = more.1;
      },
      read,
    )
record_read rem old new row false is read first flexible = read

pub took : {R : Type 0} (rem : R → Option (List ℕ)) (s : Stage) (most : ℕ) (old new : Reader R) (row : Row) (now left : Option (List Row))
    → s ≡ stage.Reading → 0 < most → IsReader rem s old → ReadsRecord rem old new row (Ok true)
    → rows_left rem s most old ≡ now → left ≡ rows_left rem s (most - 1) new → Reads now left row (Ok true)
took rem s most old new row now left e h is read view self =
    let reading : IsReading rem old = rw e at is in
    let after = row_read rem most old new row h reading read.1 in
    let was : rows_left rem stage.Reading most old ≡ now = rw e at view in
    let stays : left ≡ rows_left rem stage.Reading (most - 1) new = rw e at self in (
      records_from default_config (most - 1) (reader_state new) (unwrap_or (source_of rem new) []),
      sym was ∙ ap Some after.rows,
      stays,
    )

pub ended : {R : Type 0} (rem : R → Option (List ℕ)) (s : Stage) (most : ℕ) (old new : Reader R) (row : Row) (now : Option (List Row))
    → s ≡ stage.Reading → IsReader rem s old → ReadsRecord rem old new row (Ok false)
    → rows_left rem s most old ≡ now → now ≡ Some []
ended rem s most old new row now e is read view =
    let reading : IsReading rem old = rw e at is in
    let was : rows_left rem stage.Reading most old ≡ now = rw e at view in
    sym was ∙ ap Some (end_read rem most old new row reading read)

pub used_up : {R : Type 0} (rem : R → Option (List ℕ)) (s : Stage) (most : ℕ) (old : Reader R) (now : Option (List Row))
    → s ≡ stage.Reading → most ≡ 0 → rows_left rem s most old ≡ now → now ≡ Some []
used_up rem s most old now e z view =
    let was : rows_left rem stage.Reading 0 old ≡ now = rw (e, z) at view in
    sym was ∙ ap Some (no_rows default_config (reader_state old) (unwrap_or (source_of rem old) []))
