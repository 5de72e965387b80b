-- Groups, and the whole file.
use Rattle.std.proofs.Common.{◌≡◌, ℕ, zero, suc, ◌+◌, ◌≤◌, ◌<◌, ◌^◌, Bool, true, false, cond, ltb, List, [], ◌∷◌, ◌++◌, length, take, drop, Option, Some, None, refl, sym, ap, subst, ◌∙◌, append_assoc, arith, codes}
use Rattle.std.proofs.lemmas.Bool.{le-ltb, ltb-false}
use Rattle.std.proofs.lemmas.List.{append-nil, drop_at, length-append, length-take, take-append-drop, take_at}
use Rattle.std.proofs.lemmas.List.Concat.{flat_map-cons}
use Rattle.std.proofs.lemmas.List.Elements.{All-cons, All-head, All-nil, All-tail}
use Rattle.std.specs.Fmt.{decimal}
use Rattle.std.specs.List.{All, flat_map}
use Rattle.sym_base.specs.declared.values.value.Key.{Key}
use Rattle.sym_check.specs.Plan.ScriptPlans.{ScriptPlan}
use Rattle.sym_run.specs.Chained.{Chained}
use Rattle.sym_plain.specs.Pairs.{HaveDistinctKeys, has_key}
use Rattle.sym_run.specs.Runs.{added}
use Rattle.sym_run.specs.declared.saved.Saved.{Saved}
use Rattle.sym_run.proofs.GroupPuts.{new_key}
use Rattle.sym_file.specs.Reading.{◌>>=◌, after, at_end, below_at, body_at, chain_at, group_at, groups_at, head_at, key_at, nat_at, script_at, values_at}
use Rattle.sym_file.specs.Texts.{body_text, chain_text, group_text, head_text, key_text, line_end, listed, spaced, value_text}
use Rattle.sym_file.proofs.Codecs.{AreMany, Ends, Few, Takes, after_again, after_takes, bound, few_after, fewer, grouped_3, grouped_6, kept_not, some_is}
use Rattle.sym_file.proofs.NumberTexts.{nat_again, nat_takes}
use Rattle.sym_file.proofs.PathTexts.{IsChainRead, chain_codec, records, starts_some}
use Rattle.sym_file.proofs.ValueTexts.{IsWritten, values_codec}

abbrev pub Group : Type 0
Group = Key × Chained

module _ (p : ScriptPlan) where
  abbrev IsKeyRead : Key → Type 0
  IsKeyRead key = AreMany IsWritten (length p.group) key.values

  key_takes : (bytes : List ℕ) (key : Key) (rest : List ℕ) → Few bytes → key_at p bytes ≡ Some (key, rest) → Takes key_text IsKeyRead bytes key rest
  unfolding key_at
  key_takes bytes key rest few e =
      let a = bound (after (codes "key") bytes) (λ r. values_at (length p.group) r >>= λ vs. after line_end vs.1 >>= λ r. Some (record { values = vs.0 }, r)) (key, rest) e in
      let b = bound (values_at (length p.group) a.0) (λ vs. after line_end vs.1 >>= λ r. Some (record { values = vs.0 }, r)) (key, rest) a.2 in
      let c = bound (after line_end b.0.1) (λ r. Some (record { values = b.0.0 }, r)) (key, rest) b.2 in
      let made : Key = record { values = b.0.0 } in
      let t = (values_codec (length p.group)).takes a.0 b.0.0 b.0.1 (few_after (codes "key") bytes a.0 a.1 few) b.1 in
      let read : bytes ≡ key_text made ++ c.0 =
      after_takes (codes "key") bytes a.0 a.1
      ∙ ap (λ (bs : List ℕ). codes "key" ++ bs) t.text_is
      ∙ ap (λ (bs : List ℕ). codes "key" ++ (spaced value_text b.0.0 ++ bs)) (after_takes line_end b.0.1 c.0 c.1)
      ∙ simp append_assoc in
      subst (λ (r : Key × List ℕ). Takes key_text IsKeyRead bytes r.0 r.1) (some_is (made, c.0) (key, rest) c.2) (record { text_is = read; is_so = t.is_so })

  key_again : (key : Key) (rest : List ℕ) → AreMany IsWritten (length p.group) key.values → key_at p (key_text key ++ rest) ≡ Some (key, rest)
  unfolding key_at
  key_again key rest is =
      let grouped : key_text key ++ rest ≡ codes "key" ++ (spaced value_text key.values ++ (line_end ++ rest)) = simp append_assoc in
      ap (key_at p) grouped
      ∙ rw (
        after_again (codes "key") (spaced value_text key.values ++ (line_end ++ rest)),
        (values_codec (length p.group)).again key.values (line_end ++ rest) is refl,
        after_again line_end rest,
      ) refl

  -- A group that is read as it is written.
  pub record IsGroupRead (group : Group) : Type 0 where
    pub key : AreMany IsWritten (length p.group) group.0.values
    pub chain : IsChainRead p group.1

  group_takes : (bytes : List ℕ) (group : Group) (rest : List ℕ) → Few bytes → group_at p bytes ≡ Some (group, rest) → Takes group_text IsGroupRead bytes group rest
  unfolding group_at group_text
  group_takes bytes group rest few e =
      let a = bound (key_at p bytes) (λ k. chain_at p k.1 >>= λ c. Some ((k.0, c.0), c.1)) (group, rest) e in
      let b = bound (chain_at p a.0.1) (λ c. Some ((a.0.0, c.0), c.1)) (group, rest) a.2 in
      let key = key_takes bytes a.0.0 a.0.1 few a.1 in
      let chain = (chain_codec p).takes a.0.1 b.0.0 b.0.1 (fewer (key_text a.0.0) bytes a.0.1 key.text_is few) b.1 in
      let read : bytes ≡ group_text (a.0.0, b.0.0) ++ b.0.1 =
      key.text_is ∙ ap (λ (bs : List ℕ). key_text a.0.0 ++ bs) chain.text_is ∙ sym (append_assoc (key_text a.0.0) (chain_text b.0.0) b.0.1) in
      subst (λ (r : Group × List ℕ). Takes group_text IsGroupRead bytes r.0 r.1) (some_is ((a.0.0, b.0.0), b.0.1) (group, rest) b.2)
      (record { text_is = read; is_so = record { key = key.is_so; chain = chain.is_so } })

  group_again : (group : Group) (rest : List ℕ) → IsGroupRead group → Ends rest → group_at p (group_text group ++ rest) ≡ Some (group, rest)
  unfolding group_at group_text
  group_again group rest is ends =
      ap (group_at p) (append_assoc (key_text group.0) (chain_text group.1) rest)
      ∙ rw (key_again group.0 (chain_text group.1 ++ rest) is.key, (chain_codec p).again group.1 rest is.chain ends) refl

  group_starts : (group : Group) (rest : List ℕ) → Ends (group_text group ++ rest)
  unfolding group_text
  group_starts group rest = refl

  -- ---- the groups, after those that are there
  pub record AreRead (start : List Group) (bytes : List ℕ) (all : List Group) (rest : List ℕ) (n : ℕ) : Type 0 where
    pub more : List Group
    pub is : all ≡ start ++ more
    pub many : length more ≡ n
    pub text : bytes ≡ flat_map group_text more ++ rest
    pub each : All IsGroupRead more

  pub with_added : (start : List Group) (key : Key) (chain : Chained) (now : List Group) → added start key chain ≡ Some now → now ≡ start ++ (key, chain) ∷ []
  with_added start key chain now e = of (has_key start key) e
    where
      of : (b : Bool) → cond b None (Some (start ++ (key, chain) ∷ [])) ≡ Some now → now ≡ start ++ (key, chain) ∷ []
      of true f = absurd cc
      of false f = sym (some_is (start ++ (key, chain) ∷ []) now f)

  groups_takes : (n : ℕ) (start : List Group) (bytes : List ℕ) (all : List Group) (rest : List ℕ) → Few bytes → groups_at p n start bytes ≡ Some (all, rest) → AreRead start bytes all rest n
  unfolding groups_at
  groups_takes zero start bytes all rest few e =
      subst (λ (r : List Group × List ℕ). AreRead start bytes r.0 r.1 0) (some_is (start, bytes) (all, rest) e)
      (record { more = []; is = sym (append-nil start); many = refl; text = refl; each = All-nil IsGroupRead })
  groups_takes (suc n) start bytes all rest few e =
      let a = bound (group_at p bytes) (λ g. added start g.0.0 g.0.1 >>= λ now. groups_at p n now g.1) (all, rest) e in
      let b = bound (added start a.0.0.0 a.0.0.1) (λ now. groups_at p n now a.0.1) (all, rest) a.2 in
      let now : b.0 ≡ start ++ a.0.0 ∷ [] = with_added start a.0.0.0 a.0.0.1 b.0 b.1 in
      let first = group_takes bytes a.0.0 a.0.1 few a.1 in
      let others : AreRead b.0 a.0.1 all rest n = groups_takes n b.0 a.0.1 all rest (fewer (group_text a.0.0) bytes a.0.1 first.text_is few) b.2 in
      record {
        more = a.0.0 ∷ others.more;
        is = others.is ∙ ap (λ (gs : List Group). gs ++ others.more) now ∙ append_assoc start (a.0.0 ∷ []) others.more;
        many = ap suc others.many;
        text =
            first.text_is ∙ ap (λ (bs : List ℕ). group_text a.0.0 ++ bs) others.text
            ∙ sym (append_assoc (group_text a.0.0) (flat_map group_text others.more) rest) ∙ ap (λ (bs : List ℕ). bs ++ rest) (sym (flat_map-cons group_text a.0.0 others.more));
        each = All-cons IsGroupRead a.0.0 others.more first.is_so others.each;
      }

  groups_again : (more start : List Group) (rest : List ℕ) → HaveDistinctKeys (start ++ more) → All IsGroupRead more → Ends rest
      → groups_at p (length more) start (flat_map group_text more ++ rest) ≡ Some (start ++ more, rest)
  unfolding groups_at
  groups_again [] start rest distinct each ends = ap (λ (gs : List Group). Some (gs, rest)) (sym (append-nil start))
  groups_again (g ∷ more) start rest distinct each ends =
      let grouped : flat_map group_text (g ∷ more) ++ rest ≡ group_text g ++ (flat_map group_text more ++ rest) =
      ap (λ (bs : List ℕ). bs ++ rest) (flat_map-cons group_text g more) ∙ append_assoc (group_text g) (flat_map group_text more) rest in
      let apart : has_key start g.0 ≡ false = new_key start g more distinct in
      let regrouped : start ++ g ∷ more ≡ (start ++ g ∷ []) ++ more = sym (append_assoc start (g ∷ []) more) in
      let others : groups_at p (length more) (start ++ g ∷ []) (flat_map group_text more ++ rest) ≡ Some ((start ++ g ∷ []) ++ more, rest) =
      groups_again more (start ++ g ∷ []) rest (subst HaveDistinctKeys regrouped distinct) (All-tail IsGroupRead g more each) ends in
      ap (groups_at p (suc (length more)) start) grouped
      ∙ rw (group_again g (flat_map group_text more ++ rest) (All-head IsGroupRead g more each) (ends_groups more rest ends), apart) others
      ∙ ap (λ (gs : List Group). Some (gs, rest)) (sym regrouped)
    where
      ends_groups : (gs : List Group) (rest : List ℕ) → Ends rest → Ends (flat_map group_text gs ++ rest)
      ends_groups [] rest ends = ends
      ends_groups (h ∷ gs) rest ends =
          subst Ends (sym (ap (λ (bs : List ℕ). bs ++ rest) (flat_map-cons group_text h gs) ∙ append_assoc (group_text h) (flat_map group_text gs) rest))
          (group_starts h (flat_map group_text gs ++ rest))

  -- ---- the file after its script
  pub ended : (saved now : Saved) (rest : List ℕ) → at_end saved rest ≡ Some now → (rest ≡ []) × (saved ≡ now)
  ended saved now [] e = (refl, some_is saved now e)
  ended saved now (b ∷ rest) e = absurd cc

  -- The text of the file after its script, grouped to the right.
  regrouped_body : (first next : ℕ) (groups : List Group) → body_text (record { first = first; next = next; groups = groups })
      ≡ codes "first " ++ (decimal first ++ (line_end ++ (codes "next " ++ (decimal next ++ (line_end ++ (codes "groups " ++ (decimal (length groups) ++ (line_end ++ (flat_map group_text groups ++ codes "end\n")))))))))
  unfolding body_text
  regrouped_body first next groups =
      let h : List ℕ = listed (codes "groups ") group_text groups in
      let inner : h ++ codes "end\n" ≡ codes "groups " ++ (decimal (length groups) ++ (line_end ++ (flat_map group_text groups ++ codes "end\n"))) =
      append_assoc (codes "groups " ++ decimal (length groups) ++ line_end) (flat_map group_text groups) (codes "end\n")
      ∙ grouped_3 (codes "groups ") (decimal (length groups)) line_end (flat_map group_text groups ++ codes "end\n") in
      append_assoc (codes "first " ++ decimal first ++ line_end ++ codes "next " ++ decimal next ++ line_end) h (codes "end\n")
      ∙ grouped_6 (codes "first ") (decimal first) line_end (codes "next ") (decimal next) line_end (h ++ codes "end\n")
      ∙ ap (λ (t : List ℕ). codes "first " ++ (decimal first ++ (line_end ++ (codes "next " ++ (decimal next ++ (line_end ++ t)))))) inner

  group_some : (group : Group) → 1 ≤ length (group_text group)
  unfolding group_text
  group_some group = starts_some (codes "key") (spaced value_text group.0.values ++ line_end ++ chain_text group.1) (group_text group) (omega arith) (simp append_assoc)

  -- There are no more groups than bytes.
  groups_few : (groups : List Group) → length groups ≤ length (flat_map group_text groups)
  groups_few [] = omega arith
  groups_few (g ∷ groups) =
      let more = groups_few groups in
      let count : length (flat_map group_text (g ∷ groups)) ≡ length (group_text g) + length (flat_map group_text groups) = ap length (flat_map-cons group_text g groups) ∙ length-append (group_text g) (flat_map group_text groups) in
      let one = group_some g in
      omega (arith, more, count, one)

  -- A saved run that is read as it is written.
  pub record IsBodyRead (saved : Saved) : Type 0 where
    pub first : saved.first < 2 ^ 64
    pub next : saved.next < 2 ^ 64
    pub many : length saved.groups < 2 ^ 64
    pub each : All IsGroupRead saved.groups

  -- The groups with their number, and the end, after the numbers of records.
  abbrev groups_at_end : ℕ → ℕ → List ℕ → Option Saved
  groups_at_end first next bytes =
      nat_at bytes >>= λ n. after line_end n.1 >>= λ r. groups_at p n.0 [] r >>= λ gs. after (codes "end\n") gs.1 >>= λ r. at_end (record { first = first; next = next; groups = gs.0 }) r

  record AreGroups (first next : ℕ) (bytes : List ℕ) (saved : Saved) : Type 0 where
    pub groups : List Group
    pub is : record { first = first; next = next; groups = groups } ≡ saved
    pub text : bytes ≡ decimal (length groups) ++ (line_end ++ (flat_map group_text groups ++ codes "end\n"))
    pub many : length groups < 2 ^ 64
    pub each : All IsGroupRead groups

  few_of_text : (groups : List Group) (bytes rest : List ℕ) → bytes ≡ flat_map group_text groups ++ rest → Few bytes → length groups < 2 ^ 64
  few_of_text groups bytes rest is few =
      let less = groups_few groups in
      let count : length bytes ≡ length (flat_map group_text groups) + length rest = ap length is ∙ length-append (flat_map group_text groups) rest in
      omega (arith, few, less, count)

  groups_take : (first next : ℕ) (bytes : List ℕ) (saved : Saved) → Few bytes → groups_at_end first next bytes ≡ Some saved → AreGroups first next bytes saved
  groups_take first next bytes saved few e =
      let g = bound (nat_at bytes) (λ n. after line_end n.1 >>= λ r. groups_at p n.0 [] r >>= λ gs. after (codes "end\n") gs.1 >>= λ r. at_end (record { first = first; next = next; groups = gs.0 }) r) saved e in
      let h = bound (after line_end g.0.1) (λ r. groups_at p g.0.0 [] r >>= λ gs. after (codes "end\n") gs.1 >>= λ r. at_end (record { first = first; next = next; groups = gs.0 }) r) saved g.2 in
      let m = bound (groups_at p g.0.0 [] h.0) (λ gs. after (codes "end\n") gs.1 >>= λ r. at_end (record { first = first; next = next; groups = gs.0 }) r) saved h.2 in
      let q = bound (after (codes "end\n") m.0.1) (λ r. at_end (record { first = first; next = next; groups = m.0.0 }) r) saved m.2 in
      let last = ended (record { first = first; next = next; groups = m.0.0 }) saved q.0 q.2 in
      let few_h : Few h.0 = few_after line_end g.0.1 h.0 h.1 (fewer (decimal g.0.0) bytes g.0.1 (nat_takes bytes g.0.0 g.0.1 g.1) few) in
      let all : AreRead [] h.0 m.0.0 m.0.1 g.0.0 = groups_takes g.0.0 [] h.0 m.0.0 m.0.1 few_h m.1 in
      let listed_text : h.0 ≡ flat_map group_text m.0.0 ++ m.0.1 = all.text ∙ ap (λ (gs : List Group). flat_map group_text gs ++ m.0.1) (sym all.is) in
      let many : length m.0.0 ≡ g.0.0 = ap length all.is ∙ all.many in
      let gone : m.0.1 ≡ codes "end\n" = after_takes (codes "end\n") m.0.1 q.0 q.1 ∙ ap (λ (bs : List ℕ). codes "end\n" ++ bs) last.0 in
      record {
        groups = m.0.0;
        is = last.1;
        text =
            nat_takes bytes g.0.0 g.0.1 g.1
            ∙ ap (λ (bs : List ℕ). decimal g.0.0 ++ bs) (after_takes line_end g.0.1 h.0 h.1)
            ∙ ap (λ (n : ℕ). decimal n ++ (line_end ++ h.0)) (sym many)
            ∙ ap (λ (bs : List ℕ). decimal (length m.0.0) ++ (line_end ++ bs)) listed_text
            ∙ ap (λ (bs : List ℕ). decimal (length m.0.0) ++ (line_end ++ (flat_map group_text m.0.0 ++ bs))) gone;
        many = few_of_text m.0.0 h.0 m.0.1 listed_text few_h;
        each = subst (All IsGroupRead) (sym all.is) all.each;
      }

  -- The text of the file after its script, and what is read of it.
  whole_body : (bytes : List ℕ) (first next : ℕ) (tail : List ℕ) (saved : Saved) → first < 2 ^ 64 → next < 2 ^ 64 → AreGroups first next tail saved
      → bytes ≡ codes "first " ++ (decimal first ++ (codes "\nnext " ++ (decimal next ++ (codes "\ngroups " ++ tail)))) → (bytes ≡ body_text saved) × IsBodyRead saved
  whole_body bytes first next tail saved small_first small_next g read =
      let made : Saved = record { first = first; next = next; groups = g.groups } in
      let text : bytes ≡ body_text made = read ∙ ap (λ (bs : List ℕ). codes "first " ++ (decimal first ++ (codes "\nnext " ++ (decimal next ++ (codes "\ngroups " ++ bs))))) g.text ∙ sym (regrouped_body first next g.groups) in
      subst (λ (s : Saved). (bytes ≡ body_text s) × IsBodyRead s) g.is (text, record { first = small_first; next = small_next; many = g.many; each = g.each })

  step_in : {A B C : Type 0} (r : Option A) (f : A → Option B) (g : B → Option C) (h : A → Option C) → ((x : A) → h x ≡ (f x >>= g)) → (r >>= h) ≡ ((r >>= f) >>= g)
  step_in (Some x) f g h e = e x
  step_in None f g h e = refl

  -- What is read of the body after its head.
  abbrev pub rest_of : (ℕ × ℕ × ℕ) × List ℕ → Option Saved
  rest_of h = groups_at p h.0.2 [] h.1 >>= λ gs. after (codes "end\n") gs.1 >>= λ r. at_end (record { first = h.0.0; next = h.0.1; groups = gs.0 }) r

  -- What is read of the body, in one row of steps.
  body_steps : (bytes : List ℕ) → (after (codes "first ") bytes >>= λ r. below_at (2 ^ 64) r >>= λ f. after (codes "\nnext ") f.1 >>= λ r. below_at (2 ^ 64) r >>= λ x. after (codes "\ngroups ") x.1 >>= λ r. groups_at_end f.0 x.0 r) ≡ body_at p bytes
  unfolding body_at head_at
  body_steps bytes =
      step_in (after (codes "first ") bytes) _ rest_of _ (λ a.
      step_in (below_at (2 ^ 64) a) _ rest_of _ (λ f.
      step_in (after (codes "\nnext ") f.1) _ rest_of _ (λ b.
      step_in (below_at (2 ^ 64) b) _ rest_of _ (λ x.
      step_in (after (codes "\ngroups ") x.1) _ rest_of _ (λ c.
      step_in (nat_at c) _ rest_of _ (λ n.
      step_in (after line_end n.1) _ rest_of _ (λ d. refl)))))))

  pub body_takes : (bytes : List ℕ) (saved : Saved) → Few bytes → body_at p bytes ≡ Some saved → (bytes ≡ body_text saved) × IsBodyRead saved
  body_takes bytes saved few read_to =
      let e = body_steps bytes ∙ read_to in
      let a = bound (after (codes "first ") bytes) (λ r. below_at (2 ^ 64) r >>= λ f. after (codes "\nnext ") f.1 >>= λ r. below_at (2 ^ 64) r >>= λ x. after (codes "\ngroups ") x.1 >>= λ r. groups_at_end f.0 x.0 r) saved e in
      let b = bound (below_at (2 ^ 64) a.0) (λ f. after (codes "\nnext ") f.1 >>= λ r. below_at (2 ^ 64) r >>= λ x. after (codes "\ngroups ") x.1 >>= λ r. groups_at_end f.0 x.0 r) saved a.2 in
      let c = bound (after (codes "\nnext ") b.0.1) (λ r. below_at (2 ^ 64) r >>= λ x. after (codes "\ngroups ") x.1 >>= λ r. groups_at_end b.0.0 x.0 r) saved b.2 in
      let d = bound (below_at (2 ^ 64) c.0) (λ x. after (codes "\ngroups ") x.1 >>= λ r. groups_at_end b.0.0 x.0 r) saved c.2 in
      let f = bound (after (codes "\ngroups ") d.0.1) (λ r. groups_at_end b.0.0 d.0.0 r) saved d.2 in
      let few_a : Few a.0 = few_after (codes "first ") bytes a.0 a.1 few in
      let first = records.takes a.0 b.0.0 b.0.1 few_a b.1 in
      let few_c : Few c.0 = few_after (codes "\nnext ") b.0.1 c.0 c.1 (fewer (decimal b.0.0) a.0 b.0.1 first.text_is few_a) in
      let next = records.takes c.0 d.0.0 d.0.1 few_c d.1 in
      let few_f : Few f.0 = few_after (codes "\ngroups ") d.0.1 f.0 f.1 (fewer (decimal d.0.0) c.0 d.0.1 next.text_is few_c) in
      let g = groups_take b.0.0 d.0.0 f.0 saved few_f f.2 in
      let read : bytes ≡ codes "first " ++ (decimal b.0.0 ++ (codes "\nnext " ++ (decimal d.0.0 ++ (codes "\ngroups " ++ f.0)))) =
      after_takes (codes "first ") bytes a.0 a.1
      ∙ ap (λ (bs : List ℕ). codes "first " ++ bs) first.text_is
      ∙ ap (λ (bs : List ℕ). codes "first " ++ (decimal b.0.0 ++ bs)) (after_takes (codes "\nnext ") b.0.1 c.0 c.1)
      ∙ ap (λ (bs : List ℕ). codes "first " ++ (decimal b.0.0 ++ (codes "\nnext " ++ bs))) next.text_is
      ∙ ap (λ (bs : List ℕ). codes "first " ++ (decimal b.0.0 ++ (codes "\nnext " ++ (decimal d.0.0 ++ bs)))) (after_takes (codes "\ngroups ") d.0.1 f.0 f.1) in
      whole_body bytes b.0.0 d.0.0 f.0 saved first.is_so next.is_so g read

  pub body_again : (saved : Saved) → saved.first < 2 ^ 64 → saved.next < 2 ^ 64 → length saved.groups < 2 ^ 64 → HaveDistinctKeys saved.groups → All IsGroupRead saved.groups
      → body_at p (body_text saved) ≡ Some saved
  unfolding body_at head_at body_text
  body_again saved first next few distinct each =
      let tail : List ℕ = flat_map group_text saved.groups ++ codes "end\n" in
      let plain : body_text saved ≡ codes "first " ++ (decimal saved.first ++ (line_end ++ (codes "next " ++ (decimal saved.next ++ (line_end ++ (codes "groups " ++ (decimal (length saved.groups) ++ (line_end ++ tail)))))))) = regrouped_body saved.first saved.next saved.groups in
      let grouped : body_text saved ≡ codes "first " ++ (decimal saved.first ++ (codes "\nnext " ++ (decimal saved.next ++ (codes "\ngroups " ++ (decimal (length saved.groups) ++ (line_end ++ tail)))))) = plain in
      let last : after (codes "end\n") (codes "end\n") ≡ Some [] = after_again (codes "end\n") [] in
      ap (body_at p) grouped
      ∙ rw (
        after_again (codes "first ") (decimal saved.first ++ (codes "\nnext " ++ (decimal saved.next ++ (codes "\ngroups " ++ (decimal (length saved.groups) ++ (line_end ++ tail)))))),
        records.again saved.first (codes "\nnext " ++ (decimal saved.next ++ (codes "\ngroups " ++ (decimal (length saved.groups) ++ (line_end ++ tail))))) first refl,
        after_again (codes "\nnext ") (decimal saved.next ++ (codes "\ngroups " ++ (decimal (length saved.groups) ++ (line_end ++ tail)))),
        records.again saved.next (codes "\ngroups " ++ (decimal (length saved.groups) ++ (line_end ++ tail))) next refl,
        after_again (codes "\ngroups ") (decimal (length saved.groups) ++ (line_end ++ tail)),
        nat_again (length saved.groups) (line_end ++ tail) (omega (arith, few)) refl,
        after_again line_end tail,
        groups_again saved.groups [] (codes "end\n") distinct each refl,
        last,
      ) refl

-- ---- the end of the file
pub at_end_none : (saved : Saved) (rest : List ℕ) → 1 ≤ length rest → at_end saved rest ≡ None
at_end_none saved [] some = absurd (omega (arith, some))
at_end_none saved (b ∷ rest) some = refl

-- ---- the script
pub script_takes : (bytes script rest : List ℕ) → script_at bytes ≡ Some (script, rest) → bytes ≡ head_text script ++ rest
unfolding script_at head_text
script_takes bytes script rest e =
    let a = bound (after (codes "symple run 1\nscript ") bytes) (λ r. nat_at r >>= λ n. after line_end n.1 >>= λ r. cond (ltb (length r) n.0) None (Some (take n.0 r, drop n.0 r))) (script, rest) e in
    let b = bound (nat_at a.0) (λ n. after line_end n.1 >>= λ r. cond (ltb (length r) n.0) None (Some (take n.0 r, drop n.0 r))) (script, rest) a.2 in
    let c = bound (after line_end b.0.1) (λ r. cond (ltb (length r) b.0.0) None (Some (take b.0.0 r, drop b.0.0 r))) (script, rest) b.2 in
    let g = kept_not (ltb (length c.0) b.0.0) (Some (take b.0.0 c.0, drop b.0.0 c.0)) (script, rest) c.2 in
    let long : b.0.0 ≤ length c.0 = ltb-false _ _ g.0 in
    let len : length (take b.0.0 c.0) ≡ b.0.0 = omega (arith, length-take b.0.0 c.0, long) in
    let read : bytes ≡ head_text (take b.0.0 c.0) ++ drop b.0.0 c.0 =
    after_takes (codes "symple run 1\nscript ") bytes a.0 a.1
    ∙ ap (λ (bs : List ℕ). codes "symple run 1\nscript " ++ bs) (nat_takes a.0 b.0.0 b.0.1 b.1)
    ∙ ap (λ (bs : List ℕ). codes "symple run 1\nscript " ++ (decimal b.0.0 ++ bs)) (after_takes line_end b.0.1 c.0 c.1)
    ∙ ap (λ (bs : List ℕ). codes "symple run 1\nscript " ++ (decimal b.0.0 ++ (line_end ++ bs))) (sym (take-append-drop b.0.0 c.0))
    ∙ ap (λ (n : ℕ). codes "symple run 1\nscript " ++ (decimal n ++ (line_end ++ (take b.0.0 c.0 ++ drop b.0.0 c.0)))) (sym len)
    ∙ simp append_assoc in
    subst (λ (r : List ℕ × List ℕ). bytes ≡ head_text r.0 ++ r.1) (some_is (take b.0.0 c.0, drop b.0.0 c.0) (script, rest) g.1) read

pub script_again : (script rest : List ℕ) → length script < 10 ^ 38 → script_at (head_text script ++ rest) ≡ Some (script, rest)
unfolding script_at head_text
script_again script rest few =
    let grouped : head_text script ++ rest ≡ codes "symple run 1\nscript " ++ (decimal (length script) ++ (line_end ++ (script ++ rest))) = simp append_assoc in
    let long : ltb (length (script ++ rest)) (length script) ≡ false = le-ltb _ _ (omega (arith, length-append script rest)) in
    ap script_at grouped
    ∙ rw (
      after_again (codes "symple run 1\nscript ") (decimal (length script) ++ (line_end ++ (script ++ rest))),
      nat_again (length script) (line_end ++ (script ++ rest)) few refl,
      after_again line_end (script ++ rest),
      long,
      take_at script rest (length script) refl,
      drop_at script rest (length script) refl,
    ) refl
