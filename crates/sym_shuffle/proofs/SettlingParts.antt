-- Parts that are settled one after the other.
use Rattle.std.proofs.Common.{◌≡◌, ◌∙◌, ap, sym, refl, subst, Bool, List, [], ◌∷◌, ◌++◌, append-nil, append_assoc, map, Option, Some, None, Result, Ok, Err}
use Rattle.std.specs.List.{AllZip, flat_map}
use Rattle.std.specs.Map.{keys_of}
use Rattle.sym_base.specs.declared.values.memory.NoMemory.{NoMemory}
use Rattle.sym_base.specs.declared.values.record.Record.{Record}
use Rattle.sym_check.specs.Meaning.Groups.{key_of}
use Rattle.sym_check.specs.Plan.ScriptPlans.{ScriptPlan}
use Rattle.sym_table.specs.declared.bad.Bad.{Bad}
use Rattle.sym_table.specs.declared.chunk.Chunk.{Chunk}
use Rattle.sym_table.specs.ChunkRecords.{all_records}
use Rattle.sym_shuffle.specs.declared.batch.Batch.{Batch}
use Rattle.sym_shuffle.specs.declared.dealt.Dealt.{Dealt}
use Rattle.sym_shuffle.specs.Begun.{begun}
use Rattle.sym_shuffle.specs.Parts.{AreDealt, IsPartDealt}
use Rattle.sym_shuffle.specs.Settled.{AreSettled, HasDealt, Holds, IsDealt}
use Rattle.sym_shuffle.proofs.BegunGroups.{Groups, begun_grown}
use Rattle.sym_shuffle.proofs.SettledRounds.{chunks_bad, settled_more, settled_none}

abbrev pub Results : Type 0
Results = List (Result Dealt NoMemory)

abbrev pub flat : List (List Chunk) → List Chunk
flat parts = flat_map (λ part. part) parts

-- The first parts are settled, and the others were read.
pub record IsSettling (p : ScriptPlan) (marks : List Bool) (chunks : List Chunk) (old now : Groups) (batches : List Batch) (rest : Results) : Type 0 where
  pub done : List Chunk
  pub parts : List (List Chunk)
  pub all : chunks ≡ done ++ flat parts
  pub each : AllZip (IsPartDealt p marks old) parts rest
  pub settled : AreSettled p marks done old now batches

module _ (p : ScriptPlan) (marks : List Bool) (chunks : List Chunk) (old : Groups) where
  -- No part yet.
  pub none_settled : (dealt : Results) → AreDealt p marks old chunks dealt → IsSettling p marks chunks old old [] dealt
  none_settled dealt h = record { done = []; parts = h.parts; all = h.all; each = h.each; settled = settled_none p marks old }

  -- The next part, and those after it.
  pub record IsNextPart (parts : List (List Chunk)) (r : Result Dealt NoMemory) (rest : Results) : Type 0 where
    pub part : List Chunk
    pub others : List (List Chunk)
    pub are : parts ≡ part ∷ others
    pub dealt : IsPartDealt p marks old part r
    pub each : AllZip (IsPartDealt p marks old) others rest

  next_part : (parts : List (List Chunk)) (r : Result Dealt NoMemory) (rest : Results) → AllZip (IsPartDealt p marks old) parts (r ∷ rest) → IsNextPart parts r rest
  next_part [] r rest h = absurd h
  next_part (part ∷ others) r rest h = record { part = part; others = others; are = refl; dealt = h.0; each = h.1 }

  -- The part that comes next, where it was read.
  next_read : (now : Groups) (batches : List Batch) (left : Results) (r : Result Dealt NoMemory) (dealt : Dealt) (rest : Results) (h : IsSettling p marks chunks old now batches left) → left ≡ r ∷ rest → r ≡ Ok dealt
      → IsNextPart h.parts (Ok dealt) rest
  next_read now batches left r dealt rest h steps is =
      let whole : left ≡ Ok dealt ∷ rest = steps ∙ ap (λ (x : Result Dealt NoMemory). x ∷ rest) is in
      next_part h.parts (Ok dealt) rest (subst (AllZip (IsPartDealt p marks old) h.parts) whole h.each)

  -- What a batch that was settled has to do.
  abbrev pub Settles : Dealt → Groups → Groups → Batch → Type 0
  Settles dealt now next batch = (more : Groups) (records : List Record) → now ≡ old ++ more → IsDealt p marks old records dealt.batch (keys_of dealt.new.entries) → Holds p marks (keys_of next) records batch

  module _ (now next : Groups) (batches : List Batch) (left : Results) (r : Result Dealt NoMemory) (dealt : Dealt) (rest : Results) (h : IsSettling p marks chunks old now batches left) (steps : left ≡ r ∷ rest) (is : r ≡ Ok dealt) where
    -- The next part is settled.
    pub settling_on : (batch : Batch) → dealt.bad ≡ None → next ≡ begun p (keys_of dealt.new.entries) now → Settles dealt now next batch → IsSettling p marks chunks old next (batches ++ batch ∷ []) rest
    settling_on batch none groups holds = of (all_records p n.part) refl n.dealt
      where
        n : IsNextPart h.parts (Ok dealt) rest
        n = next_read now batches left r dealt rest h steps is

        of : (read : Result (List Record) Bad) → all_records p n.part ≡ read → HasDealt p marks old read dealt → IsSettling p marks chunks old next (batches ++ batch ∷ []) rest
        of (Err bad) read has = absurd (other dealt.bad bad has none)
          where
            other : (found : Option Bad) (bad : Bad) → found ≡ Some bad → found ≡ None → ⊥
            other found bad a b = cc
        of (Ok records) read has =
            let g = begun_grown p (map (key_of p) (flat_map (λ some. some) h.settled.records)) old in
            let split : now ≡ old ++ g.more = h.settled.groups ∙ g.is in
            let new : next ≡ begun p (map (key_of p) records) now =
            groups
            ∙ ap (begun p (keys_of dealt.new.entries)) split
            ∙ sym (has.1.are_new g.more)
            ∙ ap (begun p (map (key_of p) records)) (sym split) in
            record {
              done = h.done ++ n.part;
              parts = n.others;
              all = h.all ∙ ap (λ (parts : List (List Chunk)). h.done ++ flat parts) n.are ∙ sym (append_assoc h.done n.part (flat n.others));
              each = n.each;
              settled = settled_more p marks h.done n.part old now next batches records batch h.settled read new (holds g.more records split has.1);
            }

    -- It has a row that is no record.
    pub settling_stops : (bad : Bad) → dealt.bad ≡ Some bad → all_records p chunks ≡ Err bad
    settling_stops bad some = of (all_records p n.part) refl n.dealt
      where
        n : IsNextPart h.parts (Ok dealt) rest
        n = next_read now batches left r dealt rest h steps is

        of : (read : Result (List Record) Bad) → all_records p n.part ≡ read → HasDealt p marks old read dealt → all_records p chunks ≡ Err bad
        of (Ok records) read has = absurd (other dealt.bad has.0 some)
          where
            other : (found : Option Bad) → found ≡ None → found ≡ Some bad → ⊥
            other found a b = cc
        of (Err first) read has =
            let same : first ≡ bad = cc in
            ap (all_records p) (h.all ∙ ap (λ (parts : List (List Chunk)). h.done ++ flat parts) n.are)
            ∙ chunks_bad p h.done n.part (flat n.others) (flat_map (λ some. some) h.settled.records) bad h.settled.read (read ∙ ap Err same)

  -- All parts are settled.
  pub all_settled : (now : Groups) (batches : List Batch) (left : Results) → IsSettling p marks chunks old now batches left → left ≡ [] → AreSettled p marks chunks old now batches
  all_settled now batches left h none =
      let parts : h.parts ≡ [] = no_parts h.parts (subst (AllZip (IsPartDealt p marks old) h.parts) none h.each) in
      let whole : h.done ≡ chunks = sym (append-nil h.done) ∙ ap (λ (ps : List (List Chunk)). h.done ++ flat ps) (sym parts) ∙ sym h.all in
      subst (λ (done : List Chunk). AreSettled p marks done old now batches) whole h.settled
    where
      no_parts : (parts : List (List Chunk)) → AllZip (IsPartDealt p marks old) parts [] → parts ≡ []
      no_parts [] z = refl
      no_parts (part ∷ parts) z = absurd z
