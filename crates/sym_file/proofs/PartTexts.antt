-- What is known of the cells.
use Rattle.std.proofs.Common.{◌≡◌, ℕ, ◌+◌, ◌≤◌, ◌<◌, ◌^◌, ℤ, Bool, true, false, List, [], ◌∷◌, ◌++◌, length, Option, Some, None, refl, sym, ap, subst, ◌∙◌, append_assoc, arith, codes}
use Rattle.std.proofs.lemmas.List.{length-append}
use Rattle.std.proofs.lemmas.List.Concat.{flat_map-cons}
use Rattle.std.specs.Prelude.{slice_get}
use Rattle.std.specs.Fmt.{decimal, signed_decimal}
use Rattle.std.specs.List.{All, flat_map}
use Rattle.sym_base.specs.declared.values.value.Value.{Value}
use Rattle.sym_check.specs.declared.plan.script.KindPlan.{KindPlan}
use Rattle.sym_check.specs.declared.plan.script.CellPlan.{CellPlan}
use Rattle.sym_check.specs.declared.plan.script.CellPlan.TheVariants as plan
use Rattle.sym_check.specs.Plan.ScriptPlans.{ScriptPlan}
use Rattle.sym_enum.specs.declared.label_set.LabelSet.{LabelSet}
use Rattle.sym_int.specs.declared.span.Span.{Span}
use Rattle.sym_pred.specs.Facts.{FactMap}
use Rattle.sym_pred.specs.Literals.{literals}
use Rattle.sym_pred.specs.declared.literal.Literal.{Literal}
use Rattle.sym_path.specs.declared.part.Part.{Part}
use Rattle.sym_path.specs.declared.part.Part.TheVariants as part
use Rattle.sym_file.specs.Making.{facts_of, set_of, span_of}
use Rattle.sym_file.specs.Reading.{◌>>=◌, after, apart, arguments_in, below_at, chosen, facts_at, free_at, literal_at, many, nat_at, outcome_at, part_at, set_at, small_at, span_at, values_at}
use Rattle.sym_file.specs.Texts.{literal_text, outcome_text, part_text, spaced, value_text}
use Rattle.sym_file.proofs.Codecs.{AreMany, Codec, Ends, Few, Takes, after_again, after_takes, apart_codec, bound, ends_before, few_after, fewer, many_codec, many_takes, some_is}
use Rattle.sym_file.proofs.Made.{facts_again, facts_takes, set_again, set_takes, span_again, span_takes}
use Rattle.sym_file.proofs.NumberTexts.{below_codec, nat_again, nat_takes, small_codec}
use Rattle.sym_file.proofs.ValueTexts.{IsWritten, values_codec}

-- ---- literals

outcome_takes : (bytes : List ℕ) (o : Bool) (rest : List ℕ) → outcome_at bytes ≡ Some (o, rest) → bytes ≡ outcome_text o ++ rest
unfolding outcome_at
outcome_takes bytes o rest e = of (after (codes " yes") bytes) (after (codes " no") bytes) refl refl e
  where
    of : (yes no : Option (List ℕ)) → after (codes " yes") bytes ≡ yes → after (codes " no") bytes ≡ no → chosen yes no ≡ Some (o, rest) → bytes ≡ outcome_text o ++ rest
    of (Some r) other is q f = subst (λ (p : Bool × List ℕ). bytes ≡ outcome_text p.0 ++ p.1) (some_is (true, r) (o, rest) f) (after_takes (codes " yes") bytes r is)
    of None (Some r) q is f = subst (λ (p : Bool × List ℕ). bytes ≡ outcome_text p.0 ++ p.1) (some_is (false, r) (o, rest) f) (after_takes (codes " no") bytes r is)
    of None None q is f = absurd cc

not_yes : (rest : List ℕ) → after (codes " yes") (codes " no" ++ rest) ≡ None
unfolding after
not_yes rest = refl

outcome_again : (o : Bool) (rest : List ℕ) → outcome_at (outcome_text o ++ rest) ≡ Some (o, rest)
unfolding outcome_at
outcome_again true rest = ap (λ (r : Option (List ℕ)). chosen r (after (codes " no") (codes " yes" ++ rest))) (after_again (codes " yes") rest)
outcome_again false rest =
    ap (λ (r : Option (List ℕ)). chosen r (after (codes " no") (codes " no" ++ rest))) (not_yes rest) ∙ ap (λ (r : Option (List ℕ)). chosen None r) (after_again (codes " no") rest)

-- A literal with as many arguments as its test wants, beside so many parts.
pub record IsCalled (p : ScriptPlan) (parts : ℕ) (l : Literal) : Type 0 where
  pub test : l.test < 2 ^ 16
  pub args : AreMany IsWritten (arguments_in parts (slice_get p.tests l.test)) l.args

module _ (p : ScriptPlan) (parts : ℕ) where
  tests : Codec decimal (λ m. m < 2 ^ 16) (below_at (2 ^ 16))
  tests = below_codec (2 ^ 16) (omega arith)

  literal_takes : (bytes : List ℕ) (l : Literal) (rest : List ℕ) → Few bytes → literal_at p parts bytes ≡ Some (l, rest) → Takes literal_text (IsCalled p parts) bytes l rest
  unfolding literal_at literal_text
  literal_takes bytes l rest few e =
      let a = bound (after (codes "t") bytes) (λ r. below_at (2 ^ 16) r >>= λ test. outcome_at test.1 >>= λ outcome.
      values_at (arguments_in parts (slice_get p.tests test.0)) outcome.1 >>= λ args. Some (record { test = test.0; args = args.0; outcome = outcome.0 }, args.1)) (l, rest) e in
      let b = bound (below_at (2 ^ 16) a.0) (λ test. outcome_at test.1 >>= λ outcome.
      values_at (arguments_in parts (slice_get p.tests test.0)) outcome.1 >>= λ args. Some (record { test = test.0; args = args.0; outcome = outcome.0 }, args.1)) (l, rest) a.2 in
      let c = bound (outcome_at b.0.1) (λ outcome.
      values_at (arguments_in parts (slice_get p.tests b.0.0)) outcome.1 >>= λ args. Some (record { test = b.0.0; args = args.0; outcome = outcome.0 }, args.1)) (l, rest) b.2 in
      let d = bound (values_at (arguments_in parts (slice_get p.tests b.0.0)) c.0.1) (λ args. Some (record { test = b.0.0; args = args.0; outcome = c.0.0 }, args.1)) (l, rest) c.2 in
      let made : Literal = record { test = b.0.0; args = d.0.0; outcome = c.0.0 } in
      let test = tests.takes a.0 b.0.0 b.0.1 (few_after (codes "t") bytes a.0 a.1 few) b.1 in
      let few_tested : Few b.0.1 = fewer (decimal b.0.0) a.0 b.0.1 test.text_is (few_after (codes "t") bytes a.0 a.1 few) in
      let outcome : b.0.1 ≡ outcome_text c.0.0 ++ c.0.1 = outcome_takes b.0.1 c.0.0 c.0.1 c.1 in
      let args = (values_codec (arguments_in parts (slice_get p.tests b.0.0))).takes c.0.1 d.0.0 d.0.1 (fewer (outcome_text c.0.0) b.0.1 c.0.1 outcome few_tested) d.1 in
      let read : bytes ≡ literal_text made ++ d.0.1 =
      after_takes (codes "t") bytes a.0 a.1
      ∙ ap (λ (bs : List ℕ). codes "t" ++ bs) test.text_is
      ∙ ap (λ (bs : List ℕ). codes "t" ++ (decimal b.0.0 ++ bs)) outcome
      ∙ ap (λ (bs : List ℕ). codes "t" ++ (decimal b.0.0 ++ (outcome_text c.0.0 ++ bs))) args.text_is
      ∙ simp append_assoc in
      subst (λ (q : Literal × List ℕ). Takes literal_text (IsCalled p parts) bytes q.0 q.1) (some_is (made, d.0.1) (l, rest) d.2)
      (record { text_is = read; is_so = record { test = test.is_so; args = args.is_so } })

  ends_outcome : (o : Bool) (rest : List ℕ) → Ends (outcome_text o ++ rest)
  ends_outcome true rest = refl
  ends_outcome false rest = refl

  literal_again : (l : Literal) (rest : List ℕ) → IsCalled p parts l → Ends rest → literal_at p parts (literal_text l ++ rest) ≡ Some (l, rest)
  unfolding literal_at literal_text
  literal_again l rest is ends =
      let grouped : literal_text l ++ rest ≡ codes "t" ++ (decimal l.test ++ (outcome_text l.outcome ++ (spaced value_text l.args ++ rest))) = simp append_assoc in
      ap (literal_at p parts) grouped
      ∙ rw (
        after_again (codes "t") (decimal l.test ++ (outcome_text l.outcome ++ (spaced value_text l.args ++ rest))),
        tests.again l.test (outcome_text l.outcome ++ (spaced value_text l.args ++ rest)) is.test (ends_outcome l.outcome (spaced value_text l.args ++ rest)),
        outcome_again l.outcome (spaced value_text l.args ++ rest),
        (values_codec (arguments_in parts (slice_get p.tests l.test))).again l.args rest is.args ends,
      ) refl

  pub literal_codec : Codec literal_text (IsCalled p parts) (literal_at p parts)
  literal_codec = record { takes = literal_takes; again = literal_again }

-- ---- parts
abbrev pub next_literal_text : Literal → List ℕ
next_literal_text l = codes " " ++ literal_text l

module _ (p : ScriptPlan) (parts : ℕ) where
  literals_codec : (n : ℕ) → Codec (λ ls. flat_map next_literal_text ls) (AreMany (IsCalled p parts) n) (many (apart (literal_at p parts)) n)
  literals_codec n =
      many_codec next_literal_text (IsCalled p parts) (apart (literal_at p parts))
      (apart_codec literal_text (IsCalled p parts) (literal_at p parts) (literal_codec p parts)) (λ l rest. refl) n

  ends_literals : (ls : List Literal) (rest : List ℕ) → Ends rest → Ends (spaced literal_text ls ++ rest)
  ends_literals ls rest ends =
      ends_before next_literal_text (IsCalled p parts) (apart (literal_at p parts))
      (apart_codec literal_text (IsCalled p parts) (literal_at p parts) (literal_codec p parts)) (λ l rest. refl) ls rest ends

  -- Facts whose literals are called so.
  abbrev pub AreFacts : Part → Type 0
  AreFacts (part.Set set) = ⊥
  AreFacts (part.Span span) = ⊥
  AreFacts (part.Facts known) = (length (literals known) < 2 ^ 64) × All (IsCalled p parts) (literals known)
  AreFacts part.Free = ⊥

  -- There are no more literals than bytes.
  literals_few : (ls : List Literal) → length ls ≤ length (spaced literal_text ls)
  literals_few [] = omega arith
  literals_few (l ∷ ls) =
      let more = literals_few ls in
      let count : length (spaced literal_text (l ∷ ls)) ≡ length (next_literal_text l) + length (spaced literal_text ls) = ap length (flat_map-cons next_literal_text l ls) ∙ length-append (next_literal_text l) (spaced literal_text ls) in
      let one : length (next_literal_text l) ≡ 1 + length (literal_text l) = length-append (codes " ") (literal_text l) in
      omega (arith, more, count, one)

  facts_takes_bytes : (bytes : List ℕ) (q : Part) (rest : List ℕ) → Few bytes → facts_at p parts bytes ≡ Some (q, rest) → Takes part_text AreFacts bytes q rest
  unfolding facts_at part_text
  facts_takes_bytes bytes q rest few e =
      let a = bound (after (codes "f") bytes) (λ r. nat_at r >>= λ n. many (apart (literal_at p parts)) n.0 n.1 >>= λ ls. facts_of ls.0 >>= λ known. Some (part.Facts known, ls.1)) (q, rest) e in
      let b = bound (nat_at a.0) (λ n. many (apart (literal_at p parts)) n.0 n.1 >>= λ ls. facts_of ls.0 >>= λ known. Some (part.Facts known, ls.1)) (q, rest) a.2 in
      let c = bound (many (apart (literal_at p parts)) b.0.0 b.0.1) (λ ls. facts_of ls.0 >>= λ known. Some (part.Facts known, ls.1)) (q, rest) b.2 in
      let d = bound (facts_of c.0.0) (λ known. Some (part.Facts known, c.0.1)) (q, rest) c.2 in
      let few_counted : Few b.0.1 = fewer (decimal b.0.0) a.0 b.0.1 (nat_takes a.0 b.0.0 b.0.1 b.1) (few_after (codes "f") bytes a.0 a.1 few) in
      let counted = many_takes next_literal_text (IsCalled p parts) (apart (literal_at p parts)) (apart_codec literal_text (IsCalled p parts) (literal_at p parts) (literal_codec p parts)) b.0.0 b.0.1 c.0.0 c.0.1 few_counted c.1 in
      let same : c.0.0 ≡ literals d.0 = facts_takes c.0.0 d.0 d.1 in
      let read : bytes ≡ (codes "f" ++ decimal (length c.0.0) ++ spaced literal_text c.0.0) ++ c.0.1 =
      after_takes (codes "f") bytes a.0 a.1
      ∙ ap (λ (bs : List ℕ). codes "f" ++ bs) (nat_takes a.0 b.0.0 b.0.1 b.1)
      ∙ ap (λ (n : ℕ). codes "f" ++ (decimal n ++ b.0.1)) (sym counted.is_so.many)
      ∙ ap (λ (bs : List ℕ). codes "f" ++ (decimal (length c.0.0) ++ bs)) counted.text_is
      ∙ simp append_assoc in
      let count : length b.0.1 ≡ length (spaced literal_text c.0.0) + length c.0.1 = ap length counted.text_is ∙ length-append (spaced literal_text c.0.0) c.0.1 in
      let many : length c.0.0 < 2 ^ 64 = let less = literals_few c.0.0 in omega (arith, few_counted, count, less) in
      subst (λ (r : Part × List ℕ). Takes part_text AreFacts bytes r.0 r.1) (some_is (part.Facts d.0, c.0.1) (q, rest) d.2)
      (record {
        text_is = read ∙ ap (λ (ls : List Literal). (codes "f" ++ decimal (length ls) ++ spaced literal_text ls) ++ c.0.1) same;
        is_so = subst (λ (ls : List Literal). (length ls < 2 ^ 64) × All (IsCalled p parts) ls) same (many, counted.is_so.each);
      })

  facts_again_bytes : (known : FactMap) (rest : List ℕ) → length (literals known) < 2 ^ 64 → All (IsCalled p parts) (literals known) → Ends rest
      → facts_at p parts (part_text (part.Facts known) ++ rest) ≡ Some (part.Facts known, rest)
  unfolding facts_at part_text
  facts_again_bytes known rest few each ends =
      let ls : List Literal = literals known in
      let grouped : part_text (part.Facts known) ++ rest ≡ codes "f" ++ (decimal (length ls) ++ (spaced literal_text ls ++ rest)) = simp append_assoc in
      ap (facts_at p parts) grouped
      ∙ rw (
        after_again (codes "f") (decimal (length ls) ++ (spaced literal_text ls ++ rest)),
        nat_again (length ls) (spaced literal_text ls ++ rest) (omega (arith, few)) (ends_literals ls rest ends),
        (literals_codec (length ls)).again ls rest (record { many = refl; each = each }) ends,
        facts_again known,
      ) refl

set_takes_bytes : (bytes : List ℕ) (q : Part) (rest : List ℕ) → set_at bytes ≡ Some (q, rest) → bytes ≡ part_text q ++ rest
unfolding set_at part_text
set_takes_bytes bytes q rest e =
    let a = bound (after (codes "e") bytes) (λ r. nat_at r >>= λ n. set_of n.0 >>= λ set. Some (part.Set set, n.1)) (q, rest) e in
    let b = bound (nat_at a.0) (λ n. set_of n.0 >>= λ set. Some (part.Set set, n.1)) (q, rest) a.2 in
    let c = bound (set_of b.0.0) (λ set. Some (part.Set set, b.0.1)) (q, rest) b.2 in
    let read : bytes ≡ part_text (part.Set c.0) ++ b.0.1 =
    after_takes (codes "e") bytes a.0 a.1 ∙ ap (λ (bs : List ℕ). codes "e" ++ bs) (nat_takes a.0 b.0.0 b.0.1 b.1)
    ∙ ap (λ (n : ℕ). codes "e" ++ (decimal n ++ b.0.1)) (set_takes b.0.0 c.0 c.1) in
    subst (λ (r : Part × List ℕ). bytes ≡ part_text r.0 ++ r.1) (some_is (part.Set c.0, b.0.1) (q, rest) c.2) read

set_again_bytes : (set : LabelSet) (rest : List ℕ) → Ends rest → set_at (part_text (part.Set set) ++ rest) ≡ Some (part.Set set, rest)
unfolding set_at part_text
set_again_bytes set rest ends =
    let small : set.bits < 2 ^ 32 = set.below_32 in
    rw (after_again (codes "e") (decimal set.bits ++ rest), nat_again set.bits rest (omega (arith, small)) ends, set_again set) refl

span_takes_bytes : (bytes : List ℕ) (q : Part) (rest : List ℕ) → Few bytes → span_at bytes ≡ Some (q, rest) → bytes ≡ part_text q ++ rest
unfolding span_at part_text
span_takes_bytes bytes q rest few e =
    let a = bound (after (codes "i") bytes) (λ r. small_at r >>= λ lo. after (codes "..") lo.1 >>= λ r. small_at r >>= λ hi. span_of lo.0 hi.0 >>= λ span. Some (part.Span span, hi.1)) (q, rest) e in
    let b = bound (small_at a.0) (λ lo. after (codes "..") lo.1 >>= λ r. small_at r >>= λ hi. span_of lo.0 hi.0 >>= λ span. Some (part.Span span, hi.1)) (q, rest) a.2 in
    let c = bound (after (codes "..") b.0.1) (λ r. small_at r >>= λ hi. span_of b.0.0 hi.0 >>= λ span. Some (part.Span span, hi.1)) (q, rest) b.2 in
    let d = bound (small_at c.0) (λ hi. span_of b.0.0 hi.0 >>= λ span. Some (part.Span span, hi.1)) (q, rest) c.2 in
    let s = bound (span_of b.0.0 d.0.0) (λ span. Some (part.Span span, d.0.1)) (q, rest) d.2 in
    let same = span_takes b.0.0 d.0.0 s.0 s.1 in
    let few_a : Few a.0 = few_after (codes "i") bytes a.0 a.1 few in
    let lo = small_codec.takes a.0 b.0.0 b.0.1 few_a b.1 in
    let few_c : Few c.0 = few_after (codes "..") b.0.1 c.0 c.1 (fewer (signed_decimal b.0.0) a.0 b.0.1 lo.text_is few_a) in
    let read : bytes ≡ part_text (part.Span s.0) ++ d.0.1 =
    after_takes (codes "i") bytes a.0 a.1
    ∙ ap (λ (bs : List ℕ). codes "i" ++ bs) lo.text_is
    ∙ ap (λ (bs : List ℕ). codes "i" ++ (signed_decimal b.0.0 ++ bs)) (after_takes (codes "..") b.0.1 c.0 c.1)
    ∙ ap (λ (bs : List ℕ). codes "i" ++ (signed_decimal b.0.0 ++ (codes ".." ++ bs))) (small_codec.takes c.0 d.0.0 d.0.1 few_c d.1).text_is
    ∙ ap (λ (x : ℤ). codes "i" ++ (signed_decimal x ++ (codes ".." ++ (signed_decimal d.0.0 ++ d.0.1)))) same.0
    ∙ ap (λ (x : ℤ). codes "i" ++ (signed_decimal s.0.lo ++ (codes ".." ++ (signed_decimal x ++ d.0.1)))) same.1
    ∙ simp append_assoc in
    subst (λ (r : Part × List ℕ). bytes ≡ part_text r.0 ++ r.1) (some_is (part.Span s.0, d.0.1) (q, rest) s.2) read

span_again_bytes : (span : Span) (rest : List ℕ) → Ends rest → span_at (part_text (part.Span span) ++ rest) ≡ Some (part.Span span, rest)
unfolding span_at part_text
span_again_bytes span rest ends =
    let grouped : part_text (part.Span span) ++ rest ≡ codes "i" ++ (signed_decimal span.lo ++ (codes ".." ++ (signed_decimal span.hi ++ rest))) = simp append_assoc in
    ap span_at grouped
    ∙ rw (
      after_again (codes "i") (signed_decimal span.lo ++ (codes ".." ++ (signed_decimal span.hi ++ rest))),
      small_codec.again span.lo (codes ".." ++ (signed_decimal span.hi ++ rest)) span.lo_in refl,
      after_again (codes "..") (signed_decimal span.hi ++ rest),
      small_codec.again span.hi rest span.hi_in ends,
      span_again span,
    ) refl

-- A part of a cell that is read as it is written.
abbrev pub IsPartOf : ScriptPlan → CellPlan → Part → Type 0
IsPartOf p (plan.Enum of first) (part.Set set) = Unit {0}
IsPartOf p (plan.Enum of first) (part.Span span) = ⊥
IsPartOf p (plan.Enum of first) (part.Facts known) = ⊥
IsPartOf p (plan.Enum of first) part.Free = ⊥
IsPartOf p (plan.Int lo hi first clamp) (part.Set set) = ⊥
IsPartOf p (plan.Int lo hi first clamp) (part.Span span) = Unit {0}
IsPartOf p (plan.Int lo hi first clamp) (part.Facts known) = ⊥
IsPartOf p (plan.Int lo hi first clamp) part.Free = ⊥
IsPartOf p (plan.Hold kinds first) (part.Set set) = ⊥
IsPartOf p (plan.Hold kinds first) (part.Span span) = ⊥
IsPartOf p (plan.Hold kinds first) (part.Facts known) = (length (literals known) < 2 ^ 64) × All (IsCalled p (length kinds)) (literals known)
IsPartOf p (plan.Hold kinds first) part.Free = ⊥
IsPartOf p (plan.Nums lo hi clamp) (part.Set set) = ⊥
IsPartOf p (plan.Nums lo hi clamp) (part.Span span) = ⊥
IsPartOf p (plan.Nums lo hi clamp) (part.Facts known) = ⊥
IsPartOf p (plan.Nums lo hi clamp) part.Free = Unit {0}
IsPartOf p plan.Words (part.Set set) = ⊥
IsPartOf p plan.Words (part.Span span) = ⊥
IsPartOf p plan.Words (part.Facts known) = ⊥
IsPartOf p plan.Words part.Free = Unit {0}

free_takes : (bytes : List ℕ) (q : Part) (rest : List ℕ) → free_at bytes ≡ Some (q, rest) → bytes ≡ part_text q ++ rest
unfolding part_text
free_takes bytes q rest e =
    let a = bound (after (codes "v") bytes) (λ r. Some (part.Free, r)) (q, rest) e in
    subst (λ (r : Part × List ℕ). bytes ≡ part_text r.0 ++ r.1) (some_is (part.Free, a.0) (q, rest) a.2) (after_takes (codes "v") bytes a.0 a.1)

free_again : (rest : List ℕ) → free_at (part_text part.Free ++ rest) ≡ Some (part.Free, rest)
unfolding part_text
free_again rest = ap (λ (r : Option (List ℕ)). r >>= λ rest. Some (part.Free, rest)) (after_again (codes "v") rest)

module _ (p : ScriptPlan) where
  -- What is read of a cell is of its kind.
  set_kind : (of first : ℕ) (bytes : List ℕ) (q : Part) (rest : List ℕ) → set_at bytes ≡ Some (q, rest) → IsPartOf p (plan.Enum of first) q
  unfolding set_at
  set_kind of first bytes q rest e =
      let a = bound (after (codes "e") bytes) (λ r. nat_at r >>= λ n. set_of n.0 >>= λ set. Some (part.Set set, n.1)) (q, rest) e in
      let b = bound (nat_at a.0) (λ n. set_of n.0 >>= λ set. Some (part.Set set, n.1)) (q, rest) a.2 in
      let c = bound (set_of b.0.0) (λ set. Some (part.Set set, b.0.1)) (q, rest) b.2 in
      subst (λ (r : Part × List ℕ). IsPartOf p (plan.Enum of first) r.0) (some_is (part.Set c.0, b.0.1) (q, rest) c.2) tt

  span_kind : (lo hi first : ℤ) (clamp : Bool) (bytes : List ℕ) (q : Part) (rest : List ℕ) → span_at bytes ≡ Some (q, rest) → IsPartOf p (plan.Int lo hi first clamp) q
  unfolding span_at
  span_kind lo hi first clamp bytes q rest e =
      let a = bound (after (codes "i") bytes) (λ r. small_at r >>= λ lo. after (codes "..") lo.1 >>= λ r. small_at r >>= λ hi. span_of lo.0 hi.0 >>= λ span. Some (part.Span span, hi.1)) (q, rest) e in
      let b = bound (small_at a.0) (λ lo. after (codes "..") lo.1 >>= λ r. small_at r >>= λ hi. span_of lo.0 hi.0 >>= λ span. Some (part.Span span, hi.1)) (q, rest) a.2 in
      let c = bound (after (codes "..") b.0.1) (λ r. small_at r >>= λ hi. span_of b.0.0 hi.0 >>= λ span. Some (part.Span span, hi.1)) (q, rest) b.2 in
      let d = bound (small_at c.0) (λ hi. span_of b.0.0 hi.0 >>= λ span. Some (part.Span span, hi.1)) (q, rest) c.2 in
      let s = bound (span_of b.0.0 d.0.0) (λ span. Some (part.Span span, d.0.1)) (q, rest) d.2 in
      subst (λ (r : Part × List ℕ). IsPartOf p (plan.Int lo hi first clamp) r.0) (some_is (part.Span s.0, d.0.1) (q, rest) s.2) tt

  free_is : (bytes : List ℕ) (q : Part) (rest : List ℕ) → free_at bytes ≡ Some (q, rest) → part.Free ≡ q
  free_is bytes q rest e =
      let a = bound (after (codes "v") bytes) (λ r. Some (part.Free, r)) (q, rest) e in
      ap (λ (r : Part × List ℕ). r.0) (some_is (part.Free, a.0) (q, rest) a.2)

  facts_kind : (kinds : List KindPlan) (first : List Value) (q : Part) → AreFacts p (length kinds) q → IsPartOf p (plan.Hold kinds first) q
  facts_kind kinds first (part.Set set) h = absurd h
  facts_kind kinds first (part.Span span) h = absurd h
  facts_kind kinds first (part.Facts known) h = h
  facts_kind kinds first part.Free h = absurd h

  part_takes : (cell : CellPlan) (bytes : List ℕ) (q : Part) (rest : List ℕ) → Few bytes → part_at p cell bytes ≡ Some (q, rest) → Takes part_text (IsPartOf p cell) bytes q rest
  unfolding part_at
  part_takes (plan.Enum of first) bytes q rest few e = record { text_is = set_takes_bytes bytes q rest e; is_so = set_kind of first bytes q rest e }
  part_takes (plan.Int lo hi first clamp) bytes q rest few e = record { text_is = span_takes_bytes bytes q rest few e; is_so = span_kind lo hi first clamp bytes q rest e }
  part_takes (plan.Hold kinds first) bytes q rest few e =
      let t = facts_takes_bytes p (length kinds) bytes q rest few e in
      record { text_is = t.text_is; is_so = facts_kind kinds first q t.is_so }
  part_takes (plan.Nums lo hi clamp) bytes q rest few e =
      record { text_is = free_takes bytes q rest e; is_so = subst (IsPartOf p (plan.Nums lo hi clamp)) (free_is bytes q rest e) tt }
  part_takes plan.Words bytes q rest few e =
      record { text_is = free_takes bytes q rest e; is_so = subst (IsPartOf p plan.Words) (free_is bytes q rest e) tt }

  part_again : (cell : CellPlan) (q : Part) (rest : List ℕ) → IsPartOf p cell q → Ends rest → part_at p cell (part_text q ++ rest) ≡ Some (q, rest)
  unfolding part_at
  part_again (plan.Enum of first) (part.Set set) rest is ends = set_again_bytes set rest ends
  part_again (plan.Enum of first) (part.Span span) rest is ends = absurd is
  part_again (plan.Enum of first) (part.Facts known) rest is ends = absurd is
  part_again (plan.Enum of first) part.Free rest is ends = absurd is
  part_again (plan.Int lo hi first clamp) (part.Set set) rest is ends = absurd is
  part_again (plan.Int lo hi first clamp) (part.Span span) rest is ends = span_again_bytes span rest ends
  part_again (plan.Int lo hi first clamp) (part.Facts known) rest is ends = absurd is
  part_again (plan.Int lo hi first clamp) part.Free rest is ends = absurd is
  part_again (plan.Hold kinds first) (part.Set set) rest is ends = absurd is
  part_again (plan.Hold kinds first) (part.Span span) rest is ends = absurd is
  part_again (plan.Hold kinds first) (part.Facts known) rest is ends = facts_again_bytes p (length kinds) known rest is.0 is.1 ends
  part_again (plan.Hold kinds first) part.Free rest is ends = absurd is
  part_again (plan.Nums lo hi clamp) (part.Set set) rest is ends = absurd is
  part_again (plan.Nums lo hi clamp) (part.Span span) rest is ends = absurd is
  part_again (plan.Nums lo hi clamp) (part.Facts known) rest is ends = absurd is
  part_again (plan.Nums lo hi clamp) part.Free rest is ends = free_again rest
  part_again plan.Words (part.Set set) rest is ends = absurd is
  part_again plan.Words (part.Span span) rest is ends = absurd is
  part_again plan.Words (part.Facts known) rest is ends = absurd is
  part_again plan.Words part.Free rest is ends = free_again rest

  pub part_codec : (cell : CellPlan) → Codec part_text (IsPartOf p cell) (part_at p cell)
  part_codec cell = record { takes = part_takes cell; again = part_again cell }
