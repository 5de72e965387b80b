-- Rounds whose records have the places of their groups: what they come to.
use Rattle.std.proofs.Common.{◌≡◌, ◌∙◌, ap, ap₂, sym, refl, subst, ℕ, Bool, List, [], ◌∷◌, ◌++◌, map, length, append_assoc, Result, Ok, Err}
use Rattle.std.proofs.lemmas.List.{flat_map_more, map-append}
use Rattle.std.proofs.lemmas.List.Elements.{All-append, All-nil}
use Rattle.std.specs.List.{All, AllZip, flat_map, zip}
use Rattle.std.specs.Map.{keys_of, values_of}
use Rattle.indexmap.specs.Layout.{set_values}
use Rattle.sym_base.specs.declared.values.value.Key.{Key}
use Rattle.sym_base.specs.declared.values.record.Record.{Record}
use Rattle.sym_base.specs.declared.values.state.Outcome.{Outcome}
use Rattle.sym_check.specs.Meaning.Groups.{key_of}
use Rattle.sym_check.specs.Meaning.Validity.{IsRecord}
use Rattle.sym_check.specs.Plan.ScriptPlans.{ScriptPlan}
use Rattle.sym_plain.specs.Pairs.{HaveDistinctKeys, after_records}
use Rattle.sym_table.specs.declared.bad.Bad.{Bad}
use Rattle.sym_table.specs.declared.chunk.Chunk.{Chunk}
use Rattle.sym_table.specs.ChunkRecords.{all_records, chunk_records}
use Rattle.sym_table.specs.RowRecords.{in_turn}
use Rattle.sym_shuffle.specs.declared.batch.Batch.{Batch}
use Rattle.sym_shuffle.specs.Begun.{AreValid, begun, groups_after}
use Rattle.sym_shuffle.specs.Settled.{AreSettled, Holds, led_all}
use Rattle.sym_shuffle.specs.Shuffling.{IsPlaceOf, led}
use Rattle.sym_shuffle.proofs.BegunGroups.{Groups, IsGrown, begun_both, begun_grown, records_begun}
use Rattle.sym_shuffle.proofs.DealtRecords.{held_grown}
use Rattle.sym_shuffle.proofs.PlacedGroups.{placed_all, set_all}
use Rattle.sym_shuffle.proofs.RecordsInTurn.{led_more, zip_both, zip_length}
use Rattle.sym_shuffle.proofs.Slices.{all_length}

-- The records of lists, in order.
abbrev pub flat : List (List Record) → List Record
flat records = flat_map (λ some. some) records

-- ---- chunks in order
pub turn_first : (found : Result (List Record) Bad) → in_turn (Ok []) found ≡ found
turn_first (Ok records) = refl
turn_first (Err bad) = refl

pub turn_later : (a b c : Result (List Record) Bad) → in_turn a (in_turn b c) ≡ in_turn (in_turn a b) c
turn_later (Err bad) b c = refl
turn_later (Ok x) (Err bad) c = refl
turn_later (Ok x) (Ok y) (Err bad) = refl
turn_later (Ok x) (Ok y) (Ok z) = ap Ok (sym (append_assoc x y z))

-- The records of chunks are those of the first ones and then those of the others.
pub chunks_both : (p : ScriptPlan) (chunks more : List Chunk) → all_records p (chunks ++ more) ≡ in_turn (all_records p chunks) (all_records p more)
chunks_both p [] more = sym (turn_first (all_records p more))
chunks_both p (cut ∷ chunks) more =
    ap (in_turn (chunk_records p cut)) (chunks_both p chunks more)
    ∙ turn_later (chunk_records p cut) (all_records p chunks) (all_records p more)

-- The first bad row is that of the first chunks that have one.
pub chunks_bad : (p : ScriptPlan) (chunks part more : List Chunk) (records : List Record) (bad : Bad) → all_records p chunks ≡ Ok records → all_records p part ≡ Err bad → all_records p (chunks ++ (part ++ more)) ≡ Err bad
chunks_bad p chunks part more records bad read first =
    chunks_both p chunks (part ++ more)
    ∙ ap₂ in_turn read (chunks_both p part more ∙ ap (λ (r : Result (List Record) Bad). in_turn r (all_records p more)) first)

-- ---- rounds that are settled so far
pub settled_none : (p : ScriptPlan) (marks : List Bool) (groups : Groups) → AreSettled p marks [] groups groups []
settled_none p marks groups = record { records = []; read = refl; hold = tt; groups = refl }

hold_grown : (p : ScriptPlan) (marks : List Bool) (groups now : Groups) (records : List (List Record)) (batches : List Batch) → IsGrown p groups now → AllZip (Holds p marks (keys_of groups)) records batches
    → AllZip (Holds p marks (keys_of now)) records batches
hold_grown p marks groups now [] [] g h = tt
hold_grown p marks groups now [] (batch ∷ batches) g h = absurd h
hold_grown p marks groups now (first ∷ records) [] g h = absurd h
hold_grown p marks groups now (first ∷ records) (batch ∷ batches) g h =
    (held_grown p marks groups now first batch.places.items batch.numbers.items batch.values g h.0, hold_grown p marks groups now records batches g h.1)

-- The next batch has the records of the chunks that come next, and their groups have begun.
pub settled_more : (p : ScriptPlan) (marks : List Bool) (chunks part : List Chunk) (old now next : Groups) (batches : List Batch) (first : List Record) (batch : Batch) → AreSettled p marks chunks old now batches
    → all_records p part ≡ Ok first → next ≡ begun p (map (key_of p) first) now → Holds p marks (keys_of next) first batch → AreSettled p marks (chunks ++ part) old next (batches ++ batch ∷ [])
settled_more p marks chunks part old now next batches first batch h read is holds =
    let more : flat (h.records ++ first ∷ []) ≡ flat h.records ++ first = sym (flat_map_more (λ (some : List Record). some) [] h.records first) in
    let grown : IsGrown p now next = subst (IsGrown p now) (sym is) (begun_grown p (map (key_of p) first) now) in
    record {
      records = h.records ++ first ∷ [];
      read = chunks_both p chunks part ∙ ap₂ in_turn h.read read ∙ ap Ok (sym more);
      hold = zip_both (Holds p marks (keys_of next)) h.records (first ∷ []) batches (batch ∷ []) (hold_grown p marks now next h.records batches grown h.hold) (holds, tt);
      groups =
          is
          ∙ ap (begun p (map (key_of p) first)) h.groups
          ∙ sym (begun_both p (map (key_of p) (flat h.records)) (map (key_of p) first) old)
          ∙ ap (λ (ks : List Key). begun p ks old) (sym (map-append (key_of p) (flat h.records) first) ∙ ap (map (key_of p)) (sym more));
    }

-- ---- what a round comes to
-- The places of batches, in order.
abbrev places_of : List Batch → List ℕ
places_of batches = flat_map (λ (batch : Batch). batch.places.items) batches

all_places : (p : ScriptPlan) (marks : List Bool) (keys : List Key) (records : List (List Record)) (batches : List Batch) → AllZip (Holds p marks keys) records batches
    → AllZip (IsPlaceOf p keys) (places_of batches) (flat records)
all_places p marks keys [] [] h = tt
all_places p marks keys [] (batch ∷ batches) h = absurd h
all_places p marks keys (first ∷ records) [] h = absurd h
all_places p marks keys (first ∷ records) (batch ∷ batches) h =
    zip_both (IsPlaceOf p keys) batch.places.items (places_of batches) first (flat records) h.0.places_are (all_places p marks keys records batches h.1)

-- The batches one after the other are all their records one after the other.
all_flat : (p : ScriptPlan) (marks : List Bool) (keys : List Key) (start : ℕ) (records : List (List Record)) (batches : List Batch) (outcomes : List Outcome) → AllZip (Holds p marks keys) records batches
    → led_all p start batches records outcomes ≡ led p start (places_of batches) (flat records) outcomes
all_flat p marks keys start [] [] outcomes h = refl
all_flat p marks keys start [] (batch ∷ batches) outcomes h = absurd h
all_flat p marks keys start (first ∷ records) [] outcomes h = absurd h
all_flat p marks keys start (first ∷ records) (batch ∷ batches) outcomes h =
    all_flat p marks keys start records batches (led p start batch.places.items first outcomes) h.1
    ∙ sym (led_more p start batch.places.items (places_of batches) first (flat records) outcomes (zip_length (IsPlaceOf p keys) batch.places.items first h.0.places_are))

-- The records that are held are the script's.
hold_records : (p : ScriptPlan) (marks : List Bool) (keys : List Key) (records : List (List Record)) (batches : List Batch) → AllZip (Holds p marks keys) records batches → All (IsRecord p) (flat records)
hold_records p marks keys [] [] h = All-nil (IsRecord p)
hold_records p marks keys [] (batch ∷ batches) h = absurd h
hold_records p marks keys (first ∷ records) [] h = absurd h
hold_records p marks keys (first ∷ records) (batch ∷ batches) h = All-append (IsRecord p) first (flat records) h.0.of_script (hold_records p marks keys records batches h.1)

pub settled_records : (p : ScriptPlan) (marks : List Bool) (chunks : List Chunk) (old now : Groups) (batches : List Batch) (s : AreSettled p marks chunks old now batches) → All (IsRecord p) (flat s.records)
settled_records p marks chunks old now batches s = hold_records p marks (keys_of now) s.records batches s.hold

-- Where the batches have been led, the groups are those after the records.
pub settled_led : (p : ScriptPlan) (marks : List Bool) (chunks : List Chunk) (old now end : Groups) (batches : List Batch) (outcomes : List Outcome) (s : AreSettled p marks chunks old now batches) → HaveDistinctKeys now
    → outcomes ≡ led_all p 0 batches s.records (values_of now) → end ≡ set_values now outcomes → end ≡ after_records p (flat s.records) old
settled_led p marks chunks old now end batches outcomes s apart led is =
    let places : List ℕ = places_of batches in
    let all : List Record = flat s.records in
    let long : length outcomes ≡ length (values_of now) = ap length led ∙ all_length p 0 batches s.records (values_of now) in
    is
    ∙ set_all now outcomes long
    ∙ ap (zip (keys_of now)) (led ∙ all_flat p marks (keys_of now) 0 s.records batches (values_of now) s.hold)
    ∙ sym (placed_all p places all now apart (all_places p marks (keys_of now) s.records batches s.hold))
    ∙ ap (after_records p all) s.groups
    ∙ records_begun p all old

pub settled_end : (p : ScriptPlan) (marks : List Bool) (chunks : List Chunk) (old now end : Groups) (batches : List Batch) (outcomes : List Outcome) → AreSettled p marks chunks old now batches → HaveDistinctKeys now
    → ((keys : List Key) (records : List (List Record)) → AllZip (Holds p marks keys) records batches → outcomes ≡ led_all p 0 batches records (values_of now)) → end ≡ set_values now outcomes
    → Ok end ≡ groups_after p (all_records p chunks) old
settled_end p marks chunks old now end batches outcomes s apart led is =
    ap Ok (settled_led p marks chunks old now end batches outcomes s apart (led (keys_of now) s.records s.hold) is)
    ∙ ap (λ (read : Result (List Record) Bad). groups_after p read old) (sym s.read)

-- They are valid where records keep groups valid.
pub settled_valid : (p : ScriptPlan) (marks : List Bool) (chunks : List Chunk) (old now end : Groups) (batches : List Batch) (outcomes : List Outcome) → AreSettled p marks chunks old now batches → HaveDistinctKeys now
    → ((keys : List Key) (records : List (List Record)) → AllZip (Holds p marks keys) records batches → outcomes ≡ led_all p 0 batches records (values_of now)) → end ≡ set_values now outcomes
    → ((records : List Record) → All (IsRecord p) records → AreValid p (after_records p records old)) → AreValid p end
settled_valid p marks chunks old now end batches outcomes s apart led is valid =
    subst (AreValid p) (sym (settled_led p marks chunks old now end batches outcomes s apart (led (keys_of now) s.records s.hold) is))
    (valid (flat s.records) (settled_records p marks chunks old now batches s))
