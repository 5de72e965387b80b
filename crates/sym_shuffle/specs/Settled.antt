-- Batches of records whose groups have their places.
use Rattle.std.specs.Prelude.{◌≡◌, ℕ, Bool, List, [], ◌∷◌, ◌++◌, map, Some, None, Result, Ok, Err, OnOk}
use Rattle.std.specs.List.{AllZip, flat_map}
use Rattle.std.specs.Map.{keys_of}
use Rattle.sym_base.specs.declared.values.memory.NoMemory.{NoMemory}
use Rattle.sym_base.specs.declared.values.value.Key.{Key}
use Rattle.sym_base.specs.declared.values.record.Record.{Record}
use Rattle.sym_base.specs.declared.values.state.Outcome.{Outcome}
use Rattle.sym_check.specs.Meaning.Groups.{key_of}
use Rattle.sym_check.specs.Plan.ScriptPlans.{ScriptPlan}
use Rattle.sym_table.specs.declared.bad.Bad.{Bad}
use Rattle.sym_table.specs.declared.chunk.Chunk.{Chunk}
use Rattle.sym_table.specs.ChunkRecords.{all_records}
use Rattle.sym_shuffle.specs.Begun.{begun}
use Rattle.sym_shuffle.specs.Shuffling.{AreHeld, AreNew, led}
use Rattle.sym_shuffle.specs.declared.batch.Batch.{Batch}
use Rattle.sym_shuffle.specs.declared.dealt.Dealt.{Dealt}

-- A batch holds records, whose groups have places among these keys.
abbrev pub Holds : ScriptPlan → List Bool → List Key → List Record → Batch → Type 0
Holds p marks keys records batch =
    AreHeld p marks keys records batch.places.items batch.numbers.items batch.values

-- The records of rows were read beside groups: their places are among the keys of these and the
-- new ones after them.
pub record IsDealt (p : ScriptPlan) (marks : List Bool) (groups : List (Key × Outcome))
    (records : List Record) (batch : Batch) (new : List Key) : Type 0 where
  pub holds : Holds p marks (keys_of groups ++ new) records batch
  pub are_new : AreNew p groups records new

-- All rows are records, which were read, or the first row that is none was found.
abbrev pub HasDealt : ScriptPlan → List Bool → List (Key × Outcome) → Result (List Record) Bad
    → Dealt → Type 0
HasDealt p marks groups (Ok records) dealt =
    (dealt.bad ≡ None) × IsDealt p marks groups records dealt.batch (keys_of dealt.new.entries)
HasDealt p marks groups (Err bad) dealt = dealt.bad ≡ Some bad

-- What the records of batches make of the outcomes of groups, of which the first is at `start`.
abbrev pub led_all : ScriptPlan → ℕ → List Batch → List (List Record) → List Outcome → List Outcome
led_all p start [] records outcomes = outcomes
led_all p start (batch ∷ batches) [] outcomes = outcomes
led_all p start (batch ∷ batches) (first ∷ records) outcomes =
    led_all p start batches records (led p start batch.places.items first outcomes)

-- Where all went well, these are the outcomes after the steps of whatever records the batches hold.
abbrev pub AreLed : ScriptPlan → List Bool → List Batch → ℕ → List Outcome → List Outcome
    → Result (Unit {0}) NoMemory → Type 0
AreLed p marks batches start old now went =
    (keys : List Key) (records : List (List Record)) →
    AllZip (Holds p marks keys) records batches →
    OnOk went (now ≡ led_all p start batches records old)

-- Batches hold the records of chunks, whose groups have places among these groups: those that there
-- were, and new ones.
pub record AreSettled (p : ScriptPlan) (marks : List Bool) (chunks : List Chunk)
    (old now : List (Key × Outcome)) (batches : List Batch) : Type 0 where
  pub records : List (List Record)
  pub read : all_records p chunks ≡ Ok (flat_map (λ some. some) records)
  pub hold : AllZip (Holds p marks (keys_of now)) records batches
  pub groups : now ≡ begun p (map (key_of p) (flat_map (λ some. some) records)) old
