-- The groups of a text, joined while they are read.
use Rattle.std.proofs.Common.{◌≡◌, ◌≢◌, ◌∙◌, ℕ, ◌+◌, ◌-◌, ◌<◌, ◌≤◌, ◌^◌, refl, sym, ap, subst, arith, Bool, true, false, cond, List, [], ◌∷◌, ◌++◌, length, Option, Some, None, Result, Ok, Err, codes}
use Rattle.std.proofs.lemmas.List.Elements.{All-nil, All-push, All-weaker}
use Rattle.std.proofs.lemmas.Map.Keys.{IsDistinct-push}
use Rattle.std.specs.List.{All, IsDistinct}
use Rattle.std.specs.Map.{keys_of}
use Rattle.sym_base.specs.declared.values.value.Key.{Key}
use Rattle.sym_check.specs.Meaning.Groups.{is_among, is_key}
use Rattle.sym_check.specs.Meaning.Validity.{IsRecord}
use Rattle.sym_check.proofs.Keys.{keys_equiv}
use Rattle.sym_check.specs.Plan.ScriptPlans.{ScriptPlan}
use Rattle.sym_check.specs.Plan.WellFormed.{IsWellFormed}
use Rattle.sym_path.specs.Fitting.{PathFits, SegmentFits}
use Rattle.sym_plain.specs.Pairs.{HaveDistinctKeys}
use Rattle.sym_run.specs.Chained.{Chained}
use Rattle.sym_run.specs.Chains.{ChainFits, IsClosed}
use Rattle.sym_run.specs.ClosedJoins.{IsJoinable, IsSavedJoin}
use Rattle.sym_run.specs.Runs.{AreClosed, GroupsFit}
use Rattle.sym_run.specs.SavedRuns.{IsLawfulChain, IsLawfulGroup, IsLawfulPath, IsLawfulSaved, IsLawfulSegment}
use Rattle.sym_run.specs.declared.saved.Saved.{Saved}
use Rattle.sym_run.proofs.ClosedJoins.{IsJoiningClosed, closed_joined, closing_none, closing_on, saved_joined}
use Rattle.sym_run.proofs.GroupPuts.{all_split}
use Rattle.sym_file.specs.JoinedTexts.{AreGroupsJoined, Chains, IsBodyJoined, IsJoinedOnce, IsOwnJoined, IsTextJoined, JoinsBody, JoinsOwn}
use Rattle.sym_file.specs.Marks.{AreMarks}
use Rattle.sym_file.specs.Reading.{Fails, ◌>>=◌, after, at_end, body_at, group_at, groups_at, head_at, script_at}
use Rattle.sym_file.specs.TakenTexts.{IsRunFile, Stops}
use Rattle.sym_file.specs.declared.saved_err.SavedErr.{SavedErr}
use Rattle.sym_file.specs.declared.saved_err.SavedErr.TheVariants as error
use Rattle.sym_file.proofs.Codecs.{some_is}
use Rattle.sym_file.proofs.Groups.{Group}
use Rattle.sym_file.proofs.Loops.{groups_done, groups_go_on, groups_stop, key_twice}
use Rattle.sym_file.proofs.Read.{lawful_one, stored_one, whole_read}
use Rattle.sym_file.proofs.TakenTexts.{at_last, body_has, body_of, keys_last, next_of, no_keys}

-- The chain of a lawful group can be joined.
pub lawful_fits : (p : ScriptPlan) (first next : ℕ) (group : Group) → IsLawfulGroup p first next group → ChainFits p group.1
lawful_fits p first next group h = record {
  segments = All-weaker (IsLawfulSegment p first next) (SegmentFits p) (λ paths s. All-weaker (IsLawfulPath p first next) (PathFits p) (λ path l. l.fits) paths s.each) group.1.segments h.chain.each;
  kept = subst (All (IsRecord p)) (sym h.chain.closed) (All-nil (IsRecord p));
}

module _ (p : ScriptPlan) (first next count limit : ℕ) (bytes : List ℕ) (old : Chains) where
  -- Groups that were read are lawful and distinct, have been joined to the others, and are marked.
  pub record IsJoining (i : ℕ) (rest : List ℕ) (now : Chains) (marks : List Bool) : Type 0 where
    pub groups : List Group
    pub reads : groups_at p (count - i) groups rest ≡ groups_at p count [] bytes
    pub distinct : HaveDistinctKeys groups
    pub each : All (IsLawfulGroup p first next) groups
    pub joined : IsJoiningClosed p limit old groups now
    pub marked : AreMarks (keys_of groups) now marks

  pub begins : (marks : List Bool) → GroupsFit p old → AreClosed old → AreMarks [] old marks → IsJoining 0 bytes old marks
  begins marks fits closed none =
      let whole : count - 0 ≡ count = omega arith in
      record {
        groups = [];
        reads = ap (λ (n : ℕ). groups_at p n [] bytes) whole;
        distinct = no_keys;
        each = All-nil (IsLawfulGroup p first next);
        joined = closing_none p limit old fits closed;
        marked = none;
      }

  -- No lawful groups are read.
  abbrev pub NoLawful : Type 0
  NoLawful = (groups : List Group) (end : List ℕ) → groups_at p count [] bytes ≡ Some (groups, end) → All (IsLawfulGroup p first next) groups → ⊥

  not_read : groups_at p count [] bytes ≡ None → NoLawful
  not_read none groups end read each = absurd (cc (none, read))

  module _ (i : ℕ) (rest : List ℕ) (now : Chains) (marks : List Bool) (is : IsJoining i rest now marks) where
    pub is_done : count ≤ i → AreGroupsJoined p first next count limit bytes old now rest
    is_done past = record {
      groups = is.groups;
      read = groups_done p count i is.groups rest (groups_at p count [] bytes) past is.reads;
      each = is.each;
      distinct = is.distinct;
      joins = closed_joined p limit old is.groups now is.joined;
    }

    module _ (within : i < count) where
      pub unread : (e : SavedErr) → Fails e (group_at p rest) → Stops e NoLawful
      unread error.OtherScript f = absurd f
      unread error.Malformed f = not_read (groups_stop p count i is.groups rest (groups_at p count [] bytes) error.Malformed within f is.reads)
      unread error.NoMemory f = tt

      module _ (key : Key) (chain : Chained) (after : List ℕ) (one : group_at p rest ≡ Some ((key, chain), after)) where
        pub unlawful_group : (IsLawfulGroup p first next (key, chain) → ⊥) → NoLawful
        unlawful_group none groups end read each =
            let more = next_of p count i is.groups bytes rest key chain after groups end within one is.reads read in
            none (all_split (IsLawfulGroup p first next) is.groups (key, chain) more.0 (subst (All (IsLawfulGroup p first next)) more.1 each))

        pub named_twice : is_among key (keys_of is.groups) ≡ true → NoLawful
        named_twice again =
            not_read (key_twice p count i is.groups rest (groups_at p count [] bytes) key chain after within one
            (ap (λ (b : Bool). cond b None (Some (is.groups ++ (key, chain) ∷ []))) again) is.reads)

        pub goes_on : (new : Chains) (more : List Bool) → IsLawfulGroup p first next (key, chain) → IsJoinedOnce p limit (keys_of is.groups) key chain now true new more
            → IsJoining (i + 1) after new more
        goes_on new more lawful h =
            let longer : keys_of (is.groups ++ (key, chain) ∷ []) ≡ keys_of is.groups ++ key ∷ [] = keys_last is.groups key chain in
            record {
              groups = is.groups ++ (key, chain) ∷ [];
              reads =
                  groups_go_on p count i is.groups rest (groups_at p count [] bytes) key chain after (is.groups ++ (key, chain) ∷ []) within one
                  (ap (λ (b : Bool). cond b None (Some (is.groups ++ (key, chain) ∷ []))) h.0) is.reads;
              distinct = subst (IsDistinct is_key) (sym longer) (IsDistinct-push keys_equiv (keys_of is.groups) key is.distinct h.0);
              each = All-push (IsLawfulGroup p first next) is.groups (key, chain) is.each lawful;
              joined = closing_on p limit old is.groups now new (key, chain) is.joined h.0 h.1;
              marked = subst (λ (ks : List Key). AreMarks ks new more) (sym longer) h.2;
            }

-- ---- the parts of a text
module _ (p : ScriptPlan) (bytes : List ℕ) (first next count : ℕ) (rest : List ℕ) (head : head_at bytes ≡ Some ((first, next, count), rest)) (wanted limit : ℕ) (old new : Chains) (end : List ℕ) (is : AreGroupsJoined p first next count limit rest old new end) where
  pub no_end : (end ≡ codes "end\n" → ⊥) → (saved : Saved) → body_at p bytes ≡ Some saved → IsLawfulSaved p saved → saved.first ≢ wanted
  no_end apart saved read lawful e =
      let h = body_has p bytes first next count rest head saved read in
      let same : end ≡ h.end = ap (λ (q : List Group × List ℕ). q.1) (some_is (is.groups, end) (saved.groups, h.end) (sym is.read ∙ h.groups)) in
      absurd (apart (same ∙ h.last))

  pub whole_joined : end ≡ codes "end\n" → first ≡ wanted → 1 ≤ first → first ≤ next → IsBodyJoined p bytes wanted limit old new next
  whole_joined last same from order =
      let made : Saved = record { first = first; next = next; groups = is.groups } in
      record {
        saved = made;
        read =
            body_of p bytes first next count rest head
            ∙ ap (λ (r : Option (List Group × List ℕ)). r >>= λ gs. after (codes "end\n") gs.1 >>= λ r. at_end (record { first = first; next = next; groups = gs.0 }) r) is.read
            ∙ ap (λ (bs : List ℕ). after (codes "end\n") bs >>= λ r. at_end made r) last
            ∙ at_last p made;
        lawful = record { from = from; order = order; distinct = is.distinct; each = is.each };
        follows = same;
        next_is = refl;
        joins = is.joins;
      }

-- ---- the whole text
module _ (own : List ℕ) (p : ScriptPlan) (formed : IsWellFormed p) (bytes : List ℕ) (few : length bytes < 2 ^ 64) (wanted limit : ℕ) (script rest : List ℕ) (is : script_at bytes ≡ Some (script, rest)) where
  pub own_joined : (old new : Chains) (r : Result ℕ SavedErr) → script ≡ own → JoinsBody p rest wanted limit old new r → JoinsOwn own p bytes wanted limit old new r
  own_joined old new (Ok next) same b = record {
    saved = b.saved;
    text = record {
      is = lawful_one own p formed bytes few script rest is b.saved same b.read b.lawful;
      stored = stored_one own p formed bytes few script rest is b.saved b.read;
    };
    follows = b.follows;
    next_is = b.next_is;
    joins = b.joins;
  }
  own_joined old new (Err error.OtherScript) same f = λ saved t. f saved (whole_read own p formed bytes few script rest is saved t.stored t.is) t.is.lawful
  own_joined old new (Err error.Malformed) same f = λ saved t. f saved (whole_read own p formed bytes few script rest is saved t.stored t.is) t.is.lawful
  own_joined old new (Err error.NoMemory) same f = tt

-- The saved run of both, as it is put together.
pub text_joined : (own : List ℕ) (p : ScriptPlan) (bytes : List ℕ) (limit : ℕ) (before : Saved) (new : Chains) (next : ℕ) → IsOwnJoined own p bytes before.next limit before.groups new next
    → IsTextJoined own p bytes limit before (record { first = before.first; next = next; groups = new })
text_joined own p bytes limit before new next h = record {
  saved = h.saved;
  text = h.text;
  follows = h.follows;
  joins = subst (λ (n : ℕ). IsSavedJoin p limit before h.saved (record { first = before.first; next = n; groups = new })) (sym h.next_is) (saved_joined p limit before h.saved new h.follows h.joins);
}
