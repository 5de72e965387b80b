-- Rows and chunks that are dealt in order.
use Rattle.std.proofs.Common.{◌≡◌, ◌∙◌, ap, sym, refl, subst, ℕ, ◌+◌, ◌<◌, Bool, true, false, List, [], ◌∷◌, ◌++◌, append_assoc, append-nil, length, drop, get_or, Option, Some, None, is_some, IfNone, Result, Ok, Err}
use Rattle.std.specs.Prelude.{slice_get}
use Rattle.sym_base.specs.declared.values.value.Key.{Key}
use Rattle.sym_base.specs.declared.values.value.Value.{Value}
use Rattle.sym_base.specs.declared.values.record.Record.{Record}
use Rattle.sym_base.specs.declared.values.state.Outcome.{Outcome}
use Rattle.sym_check.specs.Meaning.Arithmetic.{and_then}
use Rattle.sym_check.specs.Plan.ScriptPlans.{ScriptPlan}
use Rattle.sym_table.specs.declared.bad.Bad.{Bad}
use Rattle.sym_table.specs.declared.bad.BadCause.{BadCause}
use Rattle.sym_table.specs.declared.bad.Decoded.TheVariants as decoded
use Rattle.sym_table.specs.declared.chunk.Chunk.{Chunk}
use Rattle.sym_table.specs.declared.header.Header.{Header}
use Rattle.sym_table.specs.ChunkRecords.{all_records, chunk_records}
use Rattle.sym_table.specs.Decoding.{Fills, numbered}
use Rattle.sym_table.specs.Reading.{Passes, Row}
use Rattle.sym_table.specs.RowRecords.{in_turn, record_or_bad, records_or_bad}
use Rattle.sym_table.specs.Rows.{read_row}
use Rattle.sym_shuffle.specs.Settled.{HasDealt}
use Rattle.sym_shuffle.specs.declared.dealt.Dealt.{Dealt}
use Rattle.sym_shuffle.proofs.RecordsInTurn.{left_at, read_there}
use Rattle.sym_shuffle.proofs.SettledRounds.{turn_first, turn_later}

-- ---- the rows of a chunk
-- What one row is read as.
abbrev alone : Result Record Bad → Result (List Record) Bad
alone (Ok rec) = Ok (rec ∷ [])
alone (Err bad) = Err bad

first_alone : (r : Result Record Bad) (others : Result (List Record) Bad)
    → and_then (λ rec. and_then (λ rest. Ok (rec ∷ rest)) others) r ≡ in_turn (alone r) others
first_alone (Err bad) others = refl
first_alone (Ok rec) (Err bad) = refl
first_alone (Ok rec) (Ok rest) = refl

row_next : (p : ScriptPlan) (header : Header) (n : ℕ) (rows : List Row) (k : ℕ) (row : Row) → slice_get rows k ≡ Some row
    → records_or_bad p header n (drop k rows) ≡ in_turn (alone (record_or_bad n (read_row p.enums p.fields header row))) (records_or_bad p header (n + 1) (drop (k + 1) rows))
row_next p header n rows k row at =
    ap (records_or_bad p header n) (left_at rows k row at)
    ∙ first_alone (record_or_bad n (read_row p.enums p.fields header row)) (records_or_bad p header (n + 1) (drop (k + 1) rows))

chunk_next : (p : ScriptPlan) (cuts : List Chunk) (k : ℕ) (cut : Chunk) → k < length cuts → cut ≡ get_or cuts k cut
    → all_records p (drop k cuts) ≡ in_turn (chunk_records p cut) (all_records p (drop (k + 1) cuts))
chunk_next p cuts k cut h e = ap (all_records p) (left_at cuts k cut (read_there cuts k cut h e))

-- What a row was decoded to.
is_record : (n : ℕ) (read : Result (List Value) BadCause) (rec : Record) → numbered n read ≡ decoded.Is rec → alone (record_or_bad n read) ≡ Ok (rec ∷ [])
is_record n (Ok values) rec e =
    let same : record { no = n; fields = values } ≡ rec = cc in ap (λ r. Ok (r ∷ [])) same
is_record n (Err why) rec e = absurd (cc)

is_refused : (n : ℕ) (read : Result (List Value) BadCause) (bad : Bad) → numbered n read ≡ decoded.Bad bad → alone (record_or_bad n read) ≡ Err bad
is_refused n (Ok values) bad e = absurd (cc)
is_refused n (Err why) bad e =
    let same : record { no = n; cause = why } ≡ bad = cc in ap Err same

-- Of all records some are dealt after those that were, and the others are left.
pub record AreDealtOn (p : ScriptPlan) (marks : List Bool) (groups : List (Key × Outcome)) (all left : Result (List Record) Bad) (old now : Dealt) : Type 0 where
  pub more : List Record
  pub splits : all ≡ in_turn (Ok more) left
  pub dealt : (done : List Record) → HasDealt p marks groups (Ok done) old → HasDealt p marks groups (Ok (done ++ more)) now

module _ (p : ScriptPlan) (marks : List Bool) (groups : List (Key × Outcome)) where
  -- None is yet,
  pub none_on : (all : Result (List Record) Bad) (old : Dealt) → AreDealtOn p marks groups all all old old
  none_on all old = record {
    more = [];
    splits = sym (turn_first all);
    dealt = λ done was. subst (λ (records : List Record). HasDealt p marks groups (Ok records) old) (sym (append-nil done)) was;
  }

  -- a record more is,
  pub row_dealt : (header : Header) (n : ℕ) (rows : List Row) (k : ℕ) (row : Row) (found : Option Bad) (rec : Record) (all : Result (List Record) Bad) (old now new : Dealt)
      → slice_get rows k ≡ Some row → is_some found ≡ false → Fills found rec (numbered n (read_row p.enums p.fields header row))
      → ((done : List Record) → HasDealt p marks groups (Ok done) now → HasDealt p marks groups (Ok (done ++ rec ∷ [])) new)
      → AreDealtOn p marks groups all (records_or_bad p header n (drop k rows)) old now
      → AreDealtOn p marks groups all (records_or_bad p header (n + 1) (drop (k + 1) rows)) old new
  row_dealt header n rows k row (Some bad) rec all old now new at none fills pushed so_far = cc
  row_dealt header n rows k row None rec all old now new at none fills pushed so_far =
      let rest = records_or_bad p header (n + 1) (drop (k + 1) rows) in
      record {
        more = so_far.more ++ rec ∷ [];
        splits =
            so_far.splits
            ∙ ap (in_turn (Ok so_far.more)) (row_next p header n rows k row at ∙ ap (λ r. in_turn r rest) (is_record n (read_row p.enums p.fields header row) rec fills))
            ∙ turn_later (Ok so_far.more) (Ok (rec ∷ [])) rest;
        dealt = λ done was.
            subst (λ (records : List Record). HasDealt p marks groups (Ok records) new) (append_assoc done so_far.more (rec ∷ [])) (pushed (done ++ so_far.more) (so_far.dealt done was));
      }

  -- or a row is none,
  pub row_refused : (header : Header) (n : ℕ) (rows : List Row) (k : ℕ) (row : Row) (found : Option Bad) (rec : Record) (all : Result (List Record) Bad) (old now new : Dealt)
      → slice_get rows k ≡ Some row → is_some found ≡ true → Fills found rec (numbered n (read_row p.enums p.fields header row)) → new.bad ≡ found
      → AreDealtOn p marks groups all (records_or_bad p header n (drop k rows)) old now
      → (done : List Record) → HasDealt p marks groups (in_turn (Ok done) all) new
  row_refused header n rows k row None rec all old now new at some fills bad so_far done = cc
  row_refused header n rows k row (Some found) rec all old now new at some fills bad so_far done =
      let rest = records_or_bad p header (n + 1) (drop (k + 1) rows) in
      let broken : all ≡ Err found =
      so_far.splits
      ∙ ap (in_turn (Ok so_far.more)) (row_next p header n rows k row at ∙ ap (λ r. in_turn r rest) (is_refused n (read_row p.enums p.fields header row) found fills)) in
      subst (λ (read : Result (List Record) Bad). HasDealt p marks groups (in_turn (Ok done) read) new) (sym broken) bad

  -- or none is left.
  pub rows_dealt : (all left : Result (List Record) Bad) (old now : Dealt) → left ≡ Ok [] → AreDealtOn p marks groups all left old now
      → (done : List Record) → HasDealt p marks groups (Ok done) old → HasDealt p marks groups (in_turn (Ok done) all) now
  rows_dealt all left old now none so_far done was =
      let whole : all ≡ Ok so_far.more =
      so_far.splits ∙ ap (in_turn (Ok so_far.more)) none ∙ ap Ok (append-nil so_far.more) in
      subst (λ (read : Result (List Record) Bad). HasDealt p marks groups (in_turn (Ok done) read) now) (sym whole) (so_far.dealt done was)

  -- ---- chunks
  -- What was read of a chunk after other records, where no row is bad,
  all_read : (read : Result (List Record) Bad) (done : List Record) (now : Dealt) → now.bad ≡ None → HasDealt p marks groups (in_turn (Ok done) read) now
      → (more : List Record) × (read ≡ Ok more) × HasDealt p marks groups (Ok (done ++ more)) now
  all_read (Ok more) done now none is = (more, refl, is)
  all_read (Err bad) done now none is = let wrong : None ≡ Some bad = cc in absurd (cc)

  -- and where one is.
  one_bad : (read : Result (List Record) Bad) (done : List Record) (now : Dealt) → is_some now.bad ≡ true → HasDealt p marks groups (in_turn (Ok done) read) now
      → (bad : Bad) × (read ≡ Err bad) × (now.bad ≡ Some bad)
  one_bad (Ok more) done now some is = let wrong : is_some now.bad ≡ false = ap is_some is.0 in absurd (cc)
  one_bad (Err bad) done now some is = (bad, refl, is)

  none_bad : (found : Option Bad) → is_some found ≡ false → found ≡ None
  none_bad None h = refl
  none_bad (Some bad) h = cc

  -- The records of the chunks so far are dealt, and the others are left.
  pub record AreChunksDealt (all left : Result (List Record) Bad) (now : Dealt) : Type 0 where
    pub done : List Record
    pub splits : all ≡ in_turn (Ok done) left
    pub dealt : HasDealt p marks groups (Ok done) now

  pub no_chunk_dealt : (all : Result (List Record) Bad) (now : Dealt) → HasDealt p marks groups (Ok []) now → AreChunksDealt all all now
  no_chunk_dealt all now is = record { done = []; splits = sym (turn_first all); dealt = is }

  pub chunk_dealt : (cuts : List Chunk) (k : ℕ) (cut : Chunk) (all : Result (List Record) Bad) (old new : Dealt)
      → k < length cuts → cut ≡ get_or cuts k cut → is_some new.bad ≡ false
      → ((done : List Record) → HasDealt p marks groups (Ok done) old → HasDealt p marks groups (in_turn (Ok done) (chunk_records p cut)) new)
      → AreChunksDealt all (all_records p (drop k cuts)) old → AreChunksDealt all (all_records p (drop (k + 1) cuts)) new
  chunk_dealt cuts k cut all old new within is none on so_far =
      let next = all_read (chunk_records p cut) so_far.done new (none_bad new.bad none) (on so_far.done so_far.dealt) in
      let rest = all_records p (drop (k + 1) cuts) in
      record {
        done = so_far.done ++ next.0;
        splits =
            so_far.splits
            ∙ ap (in_turn (Ok so_far.done)) (chunk_next p cuts k cut within is ∙ ap (λ r. in_turn r rest) next.1)
            ∙ turn_later (Ok so_far.done) (Ok next.0) rest;
        dealt = next.2;
      }

  -- The next chunk has a bad row.
  pub chunk_refused : (cuts : List Chunk) (k : ℕ) (cut : Chunk) (all : Result (List Record) Bad) (old new : Dealt)
      → k < length cuts → cut ≡ get_or cuts k cut → is_some new.bad ≡ true
      → ((done : List Record) → HasDealt p marks groups (Ok done) old → HasDealt p marks groups (in_turn (Ok done) (chunk_records p cut)) new)
      → AreChunksDealt all (all_records p (drop k cuts)) old → HasDealt p marks groups all new
  chunk_refused cuts k cut all old new within is some on so_far =
      let next = one_bad (chunk_records p cut) so_far.done new some (on so_far.done so_far.dealt) in
      let rest = all_records p (drop (k + 1) cuts) in
      let broken : all ≡ Err next.0 =
      so_far.splits ∙ ap (in_turn (Ok so_far.done)) (chunk_next p cuts k cut within is ∙ ap (λ r. in_turn r rest) next.1) in
      subst (λ (read : Result (List Record) Bad). HasDealt p marks groups read new) (sym broken) next.2

  -- No chunk is left.
  pub chunks_dealt : (all left : Result (List Record) Bad) (now : Dealt) → left ≡ Ok [] → AreChunksDealt all left now → HasDealt p marks groups all now
  chunks_dealt all left now none so_far =
      let whole : all ≡ Ok so_far.done =
      so_far.splits ∙ ap (in_turn (Ok so_far.done)) none ∙ ap Ok (append-nil so_far.done) in
      subst (λ (read : Result (List Record) Bad). HasDealt p marks groups read now) (sym whole) so_far.dealt

-- The cursor has passed the rows of a chunk of which none is bad.
pub chunk_passed : (found : Option Bad) (rows : List Row) (old new : Option (List Row)) → is_some found ≡ false → IfNone found (Passes rows old new) → Passes rows old new
chunk_passed None rows old new none passes = passes
chunk_passed (Some bad) rows old new none passes = cc
