-- The groups of a text, taken while they are read.
use Rattle.std.proofs.Common.{◌≡◌, ◌≢◌, ◌∙◌, ℕ, zero, suc, ◌+◌, ◌-◌, ◌<◌, ◌≤◌, ◌^◌, refl, sym, ap, subst, arith, Bool, true, false, cond, not, List, [], ◌∷◌, ◌++◌, append_assoc, length, Option, Some, None, Result, Ok, Err, codes}
use Rattle.std.proofs.lemmas.List.{append-nil, length-map, length_push}
use Rattle.std.proofs.lemmas.List.Elements.{All-nil, All-push}
use Rattle.std.proofs.lemmas.Map.Keys.{IsDistinct-push}
use Rattle.std.specs.List.{All, IsDistinct}
use Rattle.std.specs.Map.{keys_of, lookup}
use Rattle.sym_base.specs.declared.values.value.Key.{Key}
use Rattle.sym_base.specs.declared.values.state.Outcome.{Outcome}
use Rattle.sym_check.specs.Meaning.Conditions.{test_truth}
use Rattle.sym_check.specs.Meaning.Groups.{is_among, is_key}
use Rattle.sym_check.proofs.Keys.{keys_equiv}
use Rattle.sym_check.specs.Plan.ScriptPlans.{ScriptPlan}
use Rattle.sym_check.specs.Plan.WellFormed.{IsWellFormed}
use Rattle.sym_run.specs.Chained.{Chained}
use Rattle.sym_plain.specs.Pairs.{HaveDistinctKeys, put, standing}
use Rattle.sym_run.specs.Runs.{added}
use Rattle.sym_run.specs.SavedRuns.{IsLawfulGroup, IsLawfulSaved}
use Rattle.sym_run.specs.declared.saved.Saved.{Saved}
use Rattle.sym_run.proofs.GroupPuts.{all_split}
use Rattle.sym_file.specs.Marks.{AreMarks, IsTakenOnce}
use Rattle.sym_file.specs.Reading.{Fails, ◌>>=◌, after, at_end, body_at, group_at, groups_at, head_at, script_at}
use Rattle.sym_file.specs.TakenTexts.{AreGroupsLed, IsBodyLed, IsRunFile, LeadsBody, LeadsText, Pairs, Stops}
use Rattle.sym_file.specs.Totals.{IsTaken, led_through, taken, taken_on}
use Rattle.sym_file.specs.declared.led_groups.Led.{Led}
use Rattle.sym_file.specs.declared.led_groups.Led.TheVariants as led
use Rattle.sym_file.specs.declared.saved_err.SavedErr.{SavedErr}
use Rattle.sym_file.specs.declared.saved_err.SavedErr.TheVariants as error
use Rattle.sym_file.specs.declared.totals.Taken.{Taken}
use Rattle.sym_file.specs.declared.totals.Taken.TheVariants.{Done, Gap}
use Rattle.sym_file.proofs.Codecs.{after_takes, bound, some_is}
use Rattle.sym_file.proofs.Groups.{Group, ended, rest_of, with_added}
use Rattle.sym_file.proofs.Marks.{seen_few}
use Rattle.sym_file.proofs.Loops.{groups_done, groups_go_on, groups_stop, key_twice}
use Rattle.sym_file.proofs.Read.{lawful_one, saved_read, script_is, stored_one, whole_read}

on_done : (i : ℕ) (led : Option Outcome) (next other : Outcome → Taken) (now : Pairs) (result : Taken) → ((o : Outcome) → next o ≡ Done now → other o ≡ result) → taken_on i next led ≡ Done now → taken_on i other led ≡ result
on_done i None next other now result later e = absurd cc
on_done i (Some o) next other now result later e = later o e

pub keys_last : (groups : List Group) (key : Key) (chain : Chained) → keys_of (groups ++ (key, chain) ∷ []) ≡ keys_of groups ++ key ∷ []
keys_last [] key chain = refl
keys_last (g ∷ groups) key chain = ap (λ (ks : List Key). g.0 ∷ ks) (keys_last groups key chain)

pub no_keys : IsDistinct is_key []
unfolding IsDistinct
no_keys = tt

module _ (p : ScriptPlan) where
  abbrev led_of : Key → Chained → Pairs → Option Outcome
  led_of key chain totals = led_through (test_truth p.tests) chain (standing p (lookup (is_key key) totals))

  -- ---- totals after more groups
  taken_append : (groups more : List Group) (i : ℕ) (old now : Pairs) → taken p i groups old ≡ Done now → taken p i (groups ++ more) old ≡ taken p (i + length groups) more now
  taken_append [] more i old now e =
      let same : old ≡ now = cc in
      let none : i ≡ i + 0 = omega arith in
      ap (λ (t : Pairs). taken p i more t) same ∙ ap (λ (n : ℕ). taken p n more now) none
  taken_append (g ∷ groups) more i old now e =
      let one : suc i + length groups ≡ i + suc (length groups) = omega arith in
      on_done i (led_of g.0 g.1 old) (λ o. taken p (suc i) groups (put old g.0 o)) (λ o. taken p (suc i) (groups ++ more) (put old g.0 o)) now (taken p (i + suc (length groups)) more now)
      (λ o is. taken_append groups more (suc i) (put old g.0 o) now is ∙ ap (λ (n : ℕ). taken p n more now) one) e

  module _ (groups : List Group) (key : Key) (chain : Chained) (old mid : Pairs) (so_far : taken p 0 groups old ≡ Done mid) where
    one_more : (new : Pairs) → IsTaken key mid (led_of key chain mid) true new → taken p 0 (groups ++ (key, chain) ∷ []) old ≡ Done new
    one_more new h =
        taken_append groups ((key, chain) ∷ []) 0 old mid so_far
        ∙ ap (λ (o : Option Outcome). taken_on (0 + length groups) (λ now. Done (put mid key now)) o) h.1
        ∙ ap Done (sym h.2)

    one_gap_at : (more : List Group) → led_of key chain mid ≡ None → taken p 0 (groups ++ (key, chain) ∷ more) old ≡ Gap (length groups)
    one_gap_at more h =
        let index : 0 + length groups ≡ length groups = omega arith in
        taken_append groups ((key, chain) ∷ more) 0 old mid so_far
        ∙ ap (λ (o : Option Outcome). taken_on (0 + length groups) (λ now. taken p (suc (0 + length groups)) more (put mid key now)) o) h
        ∙ ap Gap index

  -- ---- what is read first
  groups_front : (n : ℕ) (start : List Group) (bytes : List ℕ) (all : List Group) (rest : List ℕ) → groups_at p n start bytes ≡ Some (all, rest) → (more : List Group) × (all ≡ start ++ more)
  unfolding groups_at
  groups_front zero start bytes all rest e =
      let same : start ≡ all = ap (λ (r : List Group × List ℕ). r.0) (some_is (start, bytes) (all, rest) e) in
      ([], sym same ∙ sym (append-nil start))
  groups_front (suc n) start bytes all rest e =
      let a = bound (group_at p bytes) (λ g. added start g.0.0 g.0.1 >>= λ now. groups_at p n now g.1) (all, rest) e in
      let b = bound (added start a.0.0.0 a.0.0.1) (λ now. groups_at p n now a.0.1) (all, rest) a.2 in
      let now : b.0 ≡ start ++ a.0.0 ∷ [] = with_added p start a.0.0.0 a.0.0.1 b.0 b.1 in
      let others = groups_front n b.0 a.0.1 all rest b.2 in
      (a.0.0 ∷ others.0, others.1 ∙ ap (λ (gs : List Group). gs ++ others.0) now ∙ append_assoc start (a.0.0 ∷ []) others.0)

  pub next_of : (count i : ℕ) (groups : List Group) (bytes rest : List ℕ) (key : Key) (chain : Chained) (after : List ℕ) (all : List Group) (end : List ℕ) → i < count → group_at p rest ≡ Some ((key, chain), after)
      → groups_at p (count - i) groups rest ≡ groups_at p count [] bytes → groups_at p count [] bytes ≡ Some (all, end) → (more : List Group) × (all ≡ groups ++ (key, chain) ∷ more)
  unfolding groups_at
  next_of count i groups bytes rest key chain after all end lt h reads read =
      let n : ℕ = count - (i + 1) in
      let k : count - i ≡ suc n = omega (arith, lt) in
      let e : groups_at p (suc n) groups rest ≡ Some (all, end) = sym (ap (λ (m : ℕ). groups_at p m groups rest) k) ∙ reads ∙ read in
      let a = bound (group_at p rest) (λ g. added groups g.0.0 g.0.1 >>= λ now. groups_at p n now g.1) (all, end) e in
      let b = bound (added groups a.0.0.0 a.0.0.1) (λ now. groups_at p n now a.0.1) (all, end) a.2 in
      let now : b.0 ≡ groups ++ a.0.0 ∷ [] = with_added p groups a.0.0.0 a.0.0.1 b.0 b.1 in
      let one : a.0 ≡ ((key, chain), after) = some_is a.0 ((key, chain), after) (sym a.1 ∙ h) in
      let others = groups_front n b.0 a.0.1 all end b.2 in (
        others.0,
        others.1
            ∙ ap (λ (gs : List Group). gs ++ others.0) now
            ∙ append_assoc groups (a.0.0 ∷ []) others.0
            ∙ ap (λ (g : Group × List ℕ). groups ++ g.0 ∷ others.0) one,
      )

  module _ (first next count : ℕ) (bytes : List ℕ) (old : Pairs) where
    -- Groups that were read are lawful and distinct, have led the totals on, and are marked.
    pub record IsLeading (i : ℕ) (rest : List ℕ) (now : Pairs) (marks : List Bool) : Type 0 where
      pub groups : List Group
      pub reads : groups_at p (count - i) groups rest ≡ groups_at p count [] bytes
      pub many : length groups ≡ i
      pub distinct : HaveDistinctKeys groups
      pub each : All (IsLawfulGroup p first next) groups
      pub led : taken p 0 groups old ≡ Done now
      pub marked : AreMarks (keys_of groups) now marks

    pub begins : (marks : List Bool) → AreMarks [] old marks → IsLeading 0 bytes old marks
    begins marks none =
        let whole : count - 0 ≡ count = omega arith in
        record {
          groups = [];
          reads = ap (λ (n : ℕ). groups_at p n [] bytes) whole;
          many = refl;
          distinct = no_keys;
          each = All-nil (IsLawfulGroup p first next);
          led = refl;
          marked = none;
        }

    -- No lawful groups are read.
    abbrev pub NoLawful : Type 0
    NoLawful = (groups : List Group) (end : List ℕ) → groups_at p count [] bytes ≡ Some (groups, end) → All (IsLawfulGroup p first next) groups → ⊥

    pub not_read : groups_at p count [] bytes ≡ None → NoLawful
    not_read none groups end read each = absurd (cc (none, read))

    module _ (i : ℕ) (rest : List ℕ) (now : Pairs) (marks : List Bool) (is : IsLeading i rest now marks) where
      -- The groups that were read are no more than the marks.
      pub index_small : length marks < 2 ^ 64 → i < 2 ^ 64
      index_small h =
          let few = seen_few (keys_of is.groups) now marks is.marked in
          let many : length (keys_of is.groups) ≡ i = length-map is.groups (λ (g : Group). g.0) ∙ is.many in
          omega (arith, h, few, many)

      pub is_done : count ≤ i → AreGroupsLed p first next count bytes old now rest
      is_done past = record {
        groups = is.groups;
        read = groups_done p count i is.groups rest (groups_at p count [] bytes) past is.reads;
        each = is.each;
        distinct = is.distinct;
        led = is.led;
      }

      module _ (within : i < count) where
        pub unread : (e : SavedErr) → Fails e (group_at p rest) → Stops e NoLawful
        unread error.OtherScript f = absurd f
        unread error.Malformed f = not_read (groups_stop p count i is.groups rest (groups_at p count [] bytes) error.Malformed within f is.reads)
        unread error.NoMemory f = tt

        module _ (key : Key) (chain : Chained) (after : List ℕ) (one : group_at p rest ≡ Some ((key, chain), after)) where
          pub unlawful_group : (IsLawfulGroup p first next (key, chain) → ⊥) → NoLawful
          unlawful_group none groups end read each =
              let more = next_of count i is.groups bytes rest key chain after groups end within one is.reads read in
              none (all_split (IsLawfulGroup p first next) is.groups (key, chain) more.0 (subst (All (IsLawfulGroup p first next)) more.1 each))

          pub is_gap : led_of key chain now ≡ None → (groups : List Group) (end : List ℕ) → groups_at p count [] bytes ≡ Some (groups, end) → taken p 0 groups old ≡ Gap i
          is_gap none groups end read =
              let more = next_of count i is.groups bytes rest key chain after groups end within one is.reads read in
              ap (λ (gs : List Group). taken p 0 gs old) more.1
              ∙ one_gap_at is.groups key chain old now is.led more.0 none
              ∙ ap Gap is.many

          pub named_twice : is_among key (keys_of is.groups) ≡ true → NoLawful
          named_twice again =
              not_read (key_twice p count i is.groups rest (groups_at p count [] bytes) key chain after within one
              (ap (λ (b : Bool). cond b None (Some (is.groups ++ (key, chain) ∷ []))) again) is.reads)

          pub leads_on : (new : Pairs) (more : List Bool) → IsLawfulGroup p first next (key, chain) → IsTakenOnce (keys_of is.groups) key now (led_of key chain now) (Some true) new more
              → IsLeading (i + 1) after new more
          leads_on new more lawful h =
              let longer : keys_of (is.groups ++ (key, chain) ∷ []) ≡ keys_of is.groups ++ key ∷ [] = keys_last is.groups key chain in
              record {
                groups = is.groups ++ (key, chain) ∷ [];
                reads =
                    groups_go_on p count i is.groups rest (groups_at p count [] bytes) key chain after (is.groups ++ (key, chain) ∷ []) within one
                    (ap (λ (b : Bool). cond b None (Some (is.groups ++ (key, chain) ∷ []))) h.0) is.reads;
                many = length_push is.groups (key, chain) ∙ ap (λ (n : ℕ). n + 1) is.many;
                distinct = subst (IsDistinct is_key) (sym longer) (IsDistinct-push keys_equiv (keys_of is.groups) key is.distinct h.0);
                each = All-push (IsLawfulGroup p first next) is.groups (key, chain) is.each lawful;
                led = one_more is.groups key chain old now is.led new h.1;
                marked = subst (λ (ks : List Key). AreMarks ks new more) (sym longer) h.2;
              }

  -- ---- the parts of a text
  body_is : (bytes : List ℕ) → body_at p bytes ≡ (head_at bytes >>= rest_of p)
  unfolding body_at
  body_is bytes = refl

  pub at_last : (saved : Saved) → (after (codes "end\n") (codes "end\n") >>= λ r. at_end saved r) ≡ Some saved
  unfolding after
  at_last saved = refl

  module _ (bytes : List ℕ) where
    pub no_head : (e : SavedErr) → (wanted : ℕ) → Fails e (head_at bytes) → Stops e ((saved : Saved) → body_at p bytes ≡ Some saved → IsLawfulSaved p saved → saved.first ≢ wanted)
    no_head error.OtherScript wanted f = absurd f
    no_head error.Malformed wanted f = λ saved read lawful.
        let none : body_at p bytes ≡ None = body_is bytes ∙ ap (λ (h : Option ((ℕ × ℕ × ℕ) × List ℕ)). h >>= rest_of p) f in
        absurd (cc (none, read))
    no_head error.NoMemory wanted f = tt

    module _ (first next count : ℕ) (rest : List ℕ) (head : head_at bytes ≡ Some ((first, next, count), rest)) where
      pub body_of : body_at p bytes ≡ rest_of p ((first, next, count), rest)
      body_of = body_is bytes ∙ ap (λ (h : Option ((ℕ × ℕ × ℕ) × List ℕ)). h >>= rest_of p) head

      -- What a saved run has that is read.
      pub record IsBody (saved : Saved) : Type 0 where
        pub first_is : saved.first ≡ first
        pub next_is : saved.next ≡ next
        pub end : List ℕ
        pub groups : groups_at p count [] rest ≡ Some (saved.groups, end)
        pub last : end ≡ codes "end\n"

      pub body_has : (saved : Saved) → body_at p bytes ≡ Some saved → IsBody saved
      body_has saved read =
          let g = bound (groups_at p count [] rest) (λ gs. after (codes "end\n") gs.1 >>= λ r. at_end (record { first = first; next = next; groups = gs.0 }) r) saved (sym body_of ∙ read) in
          let q = bound (after (codes "end\n") g.0.1) (λ r. at_end (record { first = first; next = next; groups = g.0.0 }) r) saved g.2 in
          let last = ended p (record { first = first; next = next; groups = g.0.0 }) saved q.0 q.2 in
          record {
            first_is = sym (ap (λ (s : Saved). s.first) last.1);
            next_is = sym (ap (λ (s : Saved). s.next) last.1);
            end = g.0.1;
            groups = g.1 ∙ ap (λ (s : Saved). Some (s.groups, g.0.1)) last.1;
            last = after_takes (codes "end\n") g.0.1 q.0 q.1 ∙ ap (λ (bs : List ℕ). codes "end\n" ++ bs) last.0;
          }

      pub not_begun : (wanted : ℕ) → ((first ≡ wanted) × (1 ≤ first) × (first ≤ next) → ⊥) → (saved : Saved) → body_at p bytes ≡ Some saved → IsLawfulSaved p saved → saved.first ≢ wanted
      not_begun wanted wrong saved read lawful e =
          let h = body_has saved read in
          let from : 1 ≤ first = subst (λ (n : ℕ). 1 ≤ n) h.first_is lawful.from in
          let order : first ≤ next = subst (λ (n : ℕ). first ≤ n) h.next_is (subst (λ (n : ℕ). n ≤ saved.next) h.first_is lawful.order) in
          absurd (wrong (sym h.first_is ∙ e, from, order))

      pub lawful_each : (saved : Saved) → IsBody saved → IsLawfulSaved p saved → All (IsLawfulGroup p first next) saved.groups
      lawful_each saved h lawful =
          subst (λ (n : ℕ). All (IsLawfulGroup p first n) saved.groups) h.next_is
          (subst (λ (n : ℕ). All (IsLawfulGroup p n saved.next) saved.groups) h.first_is lawful.each)

      module _ (wanted : ℕ) (old new : Pairs) where
        pub no_groups : (e : SavedErr) → Stops e ((groups : List Group) (end : List ℕ) → groups_at p count [] rest ≡ Some (groups, end) → All (IsLawfulGroup p first next) groups → ⊥)
            → Stops e ((saved : Saved) → body_at p bytes ≡ Some saved → IsLawfulSaved p saved → saved.first ≢ wanted)
        no_groups error.OtherScript f = λ saved read lawful e. let h = body_has saved read in absurd (f saved.groups h.end h.groups (lawful_each saved h lawful))
        no_groups error.Malformed f = λ saved read lawful e. let h = body_has saved read in absurd (f saved.groups h.end h.groups (lawful_each saved h lawful))
        no_groups error.NoMemory f = tt

        pub gap_led : (gap : ℕ) → first ≡ wanted → ((groups : List Group) (end : List ℕ) → groups_at p count [] rest ≡ Some (groups, end) → taken p 0 groups old ≡ Gap gap)
            → (saved : Saved) → body_at p bytes ≡ Some saved → (saved.first ≡ wanted) × (taken p 0 saved.groups old ≡ Gap gap)
        gap_led gap same f saved read =
            let h = body_has saved read in
            (h.first_is ∙ same, f saved.groups h.end h.groups)

        module _ (end : List ℕ) (is : AreGroupsLed p first next count rest old new end) where
          pub no_end : (end ≡ codes "end\n" → ⊥) → (saved : Saved) → body_at p bytes ≡ Some saved → IsLawfulSaved p saved → saved.first ≢ wanted
          no_end apart saved read lawful e =
              let h = body_has saved read in
              let same : end ≡ h.end = ap (λ (q : List Group × List ℕ). q.1) (some_is (is.groups, end) (saved.groups, h.end) (sym is.read ∙ h.groups)) in
              absurd (apart (same ∙ h.last))

          pub whole_led : end ≡ codes "end\n" → first ≡ wanted → 1 ≤ first → first ≤ next → IsBodyLed p bytes wanted old new next
          whole_led last same from order =
              let made : Saved = record { first = first; next = next; groups = is.groups } in
              record {
                saved = made;
                read =
                    body_of
                    ∙ ap (λ (r : Option (List Group × List ℕ)). r >>= λ gs. after (codes "end\n") gs.1 >>= λ r. at_end (record { first = first; next = next; groups = gs.0 }) r) is.read
                    ∙ ap (λ (bs : List ℕ). after (codes "end\n") bs >>= λ r. at_end made r) last
                    ∙ at_last made;
                lawful = record { from = from; order = order; distinct = is.distinct; each = is.each };
                follows = same;
                next_is = refl;
                led = is.led;
              }

-- ---- the whole text
module _ (own : List ℕ) (p : ScriptPlan) (formed : IsWellFormed p) (bytes : List ℕ) (few : length bytes < 2 ^ 64) (wanted : ℕ) where
  pub no_text : (e : SavedErr) → Fails e (script_at bytes) → Stops e ((saved : Saved) → IsRunFile own p bytes saved → saved.first ≢ wanted)
  no_text error.OtherScript f = absurd f
  no_text error.Malformed f = λ saved t e. let is = saved_read own p formed bytes few saved t.is in absurd (cc (f, is))
  no_text error.NoMemory f = tt

  module _ (script rest : List ℕ) (is : script_at bytes ≡ Some (script, rest)) where
    pub other_text : script ≢ own → (saved : Saved) → IsRunFile own p bytes saved → saved.first ≢ wanted
    other_text apart saved t e = absurd (apart (script_is own p formed bytes few script rest is saved t.is))

    pub text_led : (old new : Pairs) (r : Result Led SavedErr) → script ≡ own → LeadsBody p rest wanted old new r → LeadsText own p bytes wanted old new r
    text_led old new (Ok (led.Done next)) same b = record {
      saved = b.saved;
      text = record {
        is = lawful_one own p formed bytes few script rest is b.saved same b.read b.lawful;
        stored = stored_one own p formed bytes few script rest is b.saved b.read;
      };
      follows = b.follows;
      next_is = b.next_is;
      led = b.led;
    }
    text_led old new (Ok (led.Gap gap)) same f = λ saved t. f saved (whole_read own p formed bytes few script rest is saved t.stored t.is)
    text_led old new (Err error.OtherScript) same f = λ saved t. f saved (whole_read own p formed bytes few script rest is saved t.stored t.is) t.is.lawful
    text_led old new (Err error.Malformed) same f = λ saved t. f saved (whole_read own p formed bytes few script rest is saved t.stored t.is) t.is.lawful
    text_led old new (Err error.NoMemory) same f = tt
