-- Paths, segments and chains.
use Rattle.std.proofs.Common.{◌≡◌, ℕ, ◌+◌, ◌≤◌, ◌<◌, ◌^◌, Bool, true, false, cond, eqb, List, [], ◌∷◌, ◌++◌, length, Some, refl, sym, ap, subst, ◌∙◌, append_assoc, arith, codes}
use Rattle.std.proofs.lemmas.List.{length-append}
use Rattle.std.proofs.lemmas.List.Concat.{flat_map-cons}
use Rattle.std.specs.Fmt.{decimal}
use Rattle.std.specs.List.{AllZip, flat_map}
use Rattle.sym_base.specs.declared.values.state.Fault.{Fault}
use Rattle.sym_base.specs.declared.values.state.FaultKind.{FaultKind}
use Rattle.sym_base.specs.declared.values.state.FaultKind.TheVariants as fault
use Rattle.sym_check.specs.Plan.ScriptPlans.{ScriptPlan}
use Rattle.sym_path.specs.declared.part.Part.{Part}
use Rattle.sym_path.specs.declared.form.Form.{Form}
use Rattle.sym_path.specs.declared.path.Path.{Path}
use Rattle.sym_path.specs.declared.path.PathEnd.{PathEnd}
use Rattle.sym_path.specs.declared.path.PathEnd.TheVariants.{Next, Ended}
use Rattle.sym_base.specs.declared.values.record.Record.{Record}
use Rattle.sym_run.specs.Chained.{Chained}
use Rattle.sym_run.specs.Chains.{chain_of, closed_chain}
use Rattle.sym_file.specs.Reading.{Read, ◌>>=◌, after, apart, arith_at, below_at, chain_at, each, end_at, form_at, listed_at, many, nat_at, next_at, over_at, part_at, path_at, segment_at}
use Rattle.sym_file.specs.Stored.{AreStored, IsStoredFault}
use Rattle.sym_file.specs.Texts.{chain_text, end_text, form_text, line_end, listed, part_text, path_text, segment_text, spaced}
use Rattle.sym_file.proofs.Codecs.{Codec, Ends, Few, Takes, after_again, after_takes, apart_codec, bound, each_codec, few_after, fewer, many_codec, many_takes, some_is}
use Rattle.sym_file.proofs.FormTexts.{IsFormOf, cells, form_codec}
use Rattle.sym_file.proofs.NumberTexts.{below_codec, nat_again, nat_takes}
use Rattle.sym_file.proofs.PartTexts.{IsPartOf, part_codec}

pub records : Codec decimal (λ m. m < 2 ^ 64) (below_at (2 ^ 64))
records = below_codec (2 ^ 64) (omega arith)

module _ (p : ScriptPlan) where
  abbrev next_part_text : Part → List ℕ
  next_part_text q = codes " " ++ part_text q

  abbrev next_form_text : Form → List ℕ
  next_form_text f = codes " " ++ form_text f

  parts_codec : Codec (λ qs. flat_map next_part_text qs) (AllZip (IsPartOf p) p.cells) (each (λ cell. apart (part_at p cell)) p.cells)
  parts_codec =
      each_codec next_part_text (IsPartOf p) (λ cell. apart (part_at p cell))
      (λ cell. apart_codec part_text (IsPartOf p cell) (part_at p cell) (part_codec p cell)) (λ q rest. refl) p.cells

  forms_codec : Codec (λ fs. flat_map next_form_text fs) (AllZip IsFormOf p.cells) (each (λ cell. apart (form_at cell)) p.cells)
  forms_codec =
      each_codec next_form_text IsFormOf (λ cell. apart (form_at cell))
      (λ cell. apart_codec form_text (IsFormOf cell) (form_at cell) (form_codec cell)) (λ f rest. refl) p.cells

  -- ---- ends
  abbrev pub IsEndOf : PathEnd → Type 0
  IsEndOf (Next forms) = AllZip IsFormOf p.cells forms
  IsEndOf (Ended ended) = IsStoredFault ended.kind ended.no

  next_takes : (bytes : List ℕ) (end : PathEnd) (rest : List ℕ) → Few bytes → next_at p bytes ≡ Some (end, rest) → Takes end_text IsEndOf bytes end rest
  unfolding end_text
  next_takes bytes end rest few e =
      let a = bound (after (codes "next") bytes) (λ r. each (λ cell. apart (form_at cell)) p.cells r >>= λ fs. Some (Next fs.0, fs.1)) (end, rest) e in
      let b = bound (each (λ cell. apart (form_at cell)) p.cells a.0) (λ fs. Some (Next fs.0, fs.1)) (end, rest) a.2 in
      let t = forms_codec.takes a.0 b.0.0 b.0.1 (few_after (codes "next") bytes a.0 a.1 few) b.1 in
      let read : bytes ≡ end_text (Next b.0.0) ++ b.0.1 =
      after_takes (codes "next") bytes a.0 a.1 ∙ ap (λ (bs : List ℕ). codes "next" ++ bs) t.text_is ∙ simp append_assoc in
      subst (λ (r : PathEnd × List ℕ). Takes end_text IsEndOf bytes r.0 r.1) (some_is (Next b.0.0, b.0.1) (end, rest) b.2) (record { text_is = read; is_so = t.is_so })

  over_takes : (bytes : List ℕ) (end : PathEnd) (rest : List ℕ) → Few bytes → over_at bytes ≡ Some (end, rest) → Takes end_text IsEndOf bytes end rest
  unfolding end_text
  over_takes bytes end rest few e =
      let a = bound (after (codes "over ") bytes) (λ r. below_at (2 ^ 16) r >>= λ c. after (codes " ") c.1 >>= λ r. below_at (2 ^ 64) r >>= λ n. Some (Ended (record { kind = fault.Over c.0; no = n.0 }), n.1)) (end, rest) e in
      let b = bound (below_at (2 ^ 16) a.0) (λ c. after (codes " ") c.1 >>= λ r. below_at (2 ^ 64) r >>= λ n. Some (Ended (record { kind = fault.Over c.0; no = n.0 }), n.1)) (end, rest) a.2 in
      let c = bound (after (codes " ") b.0.1) (λ r. below_at (2 ^ 64) r >>= λ n. Some (Ended (record { kind = fault.Over b.0.0; no = n.0 }), n.1)) (end, rest) b.2 in
      let d = bound (below_at (2 ^ 64) c.0) (λ n. Some (Ended (record { kind = fault.Over b.0.0; no = n.0 }), n.1)) (end, rest) c.2 in
      let made : Fault = record { kind = fault.Over b.0.0; no = d.0.0 } in
      let few_a : Few a.0 = few_after (codes "over ") bytes a.0 a.1 few in
      let cell = cells.takes a.0 b.0.0 b.0.1 few_a b.1 in
      let no = records.takes c.0 d.0.0 d.0.1 (few_after (codes " ") b.0.1 c.0 c.1 (fewer (decimal b.0.0) a.0 b.0.1 cell.text_is few_a)) d.1 in
      let read : bytes ≡ end_text (Ended made) ++ d.0.1 =
      after_takes (codes "over ") bytes a.0 a.1
      ∙ ap (λ (bs : List ℕ). codes "over " ++ bs) cell.text_is
      ∙ ap (λ (bs : List ℕ). codes "over " ++ (decimal b.0.0 ++ bs)) (after_takes (codes " ") b.0.1 c.0 c.1)
      ∙ ap (λ (bs : List ℕ). codes "over " ++ (decimal b.0.0 ++ (codes " " ++ bs))) no.text_is
      ∙ simp append_assoc in
      subst (λ (r : PathEnd × List ℕ). Takes end_text IsEndOf bytes r.0 r.1) (some_is (Ended made, d.0.1) (end, rest) d.2) (record { text_is = read; is_so = (cell.is_so, no.is_so) })

  arith_takes : (bytes : List ℕ) (end : PathEnd) (rest : List ℕ) → Few bytes → arith_at bytes ≡ Some (end, rest) → Takes end_text IsEndOf bytes end rest
  unfolding end_text
  arith_takes bytes end rest few e =
      let a = bound (after (codes "arith ") bytes) (λ r. below_at (2 ^ 64) r >>= λ n. Some (Ended (record { kind = fault.Arith; no = n.0 }), n.1)) (end, rest) e in
      let b = bound (below_at (2 ^ 64) a.0) (λ n. Some (Ended (record { kind = fault.Arith; no = n.0 }), n.1)) (end, rest) a.2 in
      let made : Fault = record { kind = fault.Arith; no = b.0.0 } in
      let no = records.takes a.0 b.0.0 b.0.1 (few_after (codes "arith ") bytes a.0 a.1 few) b.1 in
      let read : bytes ≡ end_text (Ended made) ++ b.0.1 =
      after_takes (codes "arith ") bytes a.0 a.1 ∙ ap (λ (bs : List ℕ). codes "arith " ++ bs) no.text_is in
      subst (λ (r : PathEnd × List ℕ). Takes end_text IsEndOf bytes r.0 r.1) (some_is (Ended made, b.0.1) (end, rest) b.2) (record { text_is = read; is_so = no.is_so })

  end_takes : (bytes : List ℕ) (end : PathEnd) (rest : List ℕ) → Few bytes → end_at p bytes ≡ Some (end, rest) → Takes end_text IsEndOf bytes end rest
  unfolding end_at
  end_takes [] end rest few e = absurd cc
  end_takes (b ∷ bytes) end rest few e = of (eqb b 110) (eqb b 111) e
    where
      of : (n o : Bool) → cond n (next_at p (b ∷ bytes)) (cond o (over_at (b ∷ bytes)) (arith_at (b ∷ bytes))) ≡ Some (end, rest) → Takes end_text IsEndOf (b ∷ bytes) end rest
      of true o f = next_takes (b ∷ bytes) end rest few f
      of false true f = over_takes (b ∷ bytes) end rest few f
      of false false f = arith_takes (b ∷ bytes) end rest few f

  over_again : (c n : ℕ) (rest : List ℕ) → c < 2 ^ 16 → n < 2 ^ 64 → Ends rest → end_at p (end_text (Ended (record { kind = fault.Over c; no = n })) ++ rest) ≡ Some (Ended (record { kind = fault.Over c; no = n }), rest)
  unfolding end_at end_text
  over_again c n rest cell few ends =
      let grouped : (codes "over " ++ decimal c ++ codes " " ++ decimal n) ++ rest ≡ codes "over " ++ (decimal c ++ (codes " " ++ (decimal n ++ rest))) = simp append_assoc in
      ap (end_at p) grouped
      ∙ rw (
        after_again (codes "over ") (decimal c ++ (codes " " ++ (decimal n ++ rest))),
        cells.again c (codes " " ++ (decimal n ++ rest)) cell refl,
        after_again (codes " ") (decimal n ++ rest),
        records.again n rest few ends,
      ) refl

  arith_kind_again : (n : ℕ) (rest : List ℕ) → n < 2 ^ 64 → Ends rest → end_at p (end_text (Ended (record { kind = fault.Arith; no = n })) ++ rest) ≡ Some (Ended (record { kind = fault.Arith; no = n }), rest)
  unfolding end_at end_text
  arith_kind_again n rest few ends =
      let grouped : (codes "arith " ++ decimal n) ++ rest ≡ codes "arith " ++ (decimal n ++ rest) = simp append_assoc in
      ap (end_at p) grouped ∙ rw (after_again (codes "arith ") (decimal n ++ rest), records.again n rest few ends) refl

  next_again : (forms : List Form) (rest : List ℕ) → AllZip IsFormOf p.cells forms → Ends rest → end_at p (end_text (Next forms) ++ rest) ≡ Some (Next forms, rest)
  unfolding end_at end_text
  next_again forms rest is ends =
      let grouped : (codes "next" ++ spaced form_text forms) ++ rest ≡ codes "next" ++ (spaced form_text forms ++ rest) = simp append_assoc in
      ap (end_at p) grouped ∙ rw (after_again (codes "next") (spaced form_text forms ++ rest), forms_codec.again forms rest is ends) refl

  end_again : (end : PathEnd) (rest : List ℕ) → IsEndOf end → Ends rest → end_at p (end_text end ++ rest) ≡ Some (end, rest)
  end_again (Next forms) rest is ends = next_again forms rest is ends
  end_again (Ended ended) rest is ends = of ended.kind is
    where
      of : (kind : FaultKind) → IsStoredFault kind ended.no → end_at p (end_text (Ended (record { kind = kind; no = ended.no })) ++ rest) ≡ Some (Ended (record { kind = kind; no = ended.no }), rest)
      of (fault.Over c) is = over_again c ended.no rest is.0 is.1 ends
      of fault.Arith is = arith_kind_again ended.no rest is ends

  -- ---- paths
  pub record IsPathOf (path : Path) : Type 0 where
    pub when : AllZip (IsPartOf p) p.cells path.when
    pub end : IsEndOf path.end

  path_takes : (bytes : List ℕ) (path : Path) (rest : List ℕ) → Few bytes → path_at p bytes ≡ Some (path, rest) → Takes path_text IsPathOf bytes path rest
  unfolding path_at path_text
  path_takes bytes path rest few e =
      let a = bound (after (codes "when") bytes) (λ r. each (λ cell. apart (part_at p cell)) p.cells r >>= λ qs. after line_end qs.1 >>= λ r. end_at p r >>= λ end. after line_end end.1 >>= λ r. Some (record { when = qs.0; end = end.0 }, r)) (path, rest) e in
      let b = bound (each (λ cell. apart (part_at p cell)) p.cells a.0) (λ qs. after line_end qs.1 >>= λ r. end_at p r >>= λ end. after line_end end.1 >>= λ r. Some (record { when = qs.0; end = end.0 }, r)) (path, rest) a.2 in
      let c = bound (after line_end b.0.1) (λ r. end_at p r >>= λ end. after line_end end.1 >>= λ r. Some (record { when = b.0.0; end = end.0 }, r)) (path, rest) b.2 in
      let d = bound (end_at p c.0) (λ end. after line_end end.1 >>= λ r. Some (record { when = b.0.0; end = end.0 }, r)) (path, rest) c.2 in
      let f = bound (after line_end d.0.1) (λ r. Some (record { when = b.0.0; end = d.0.0 }, r)) (path, rest) d.2 in
      let made : Path = record { when = b.0.0; end = d.0.0 } in
      let few_a : Few a.0 = few_after (codes "when") bytes a.0 a.1 few in
      let when = parts_codec.takes a.0 b.0.0 b.0.1 few_a b.1 in
      let ending = end_takes c.0 d.0.0 d.0.1 (few_after line_end b.0.1 c.0 c.1 (fewer (spaced part_text b.0.0) a.0 b.0.1 when.text_is few_a)) d.1 in
      let read : bytes ≡ path_text made ++ f.0 =
      after_takes (codes "when") bytes a.0 a.1
      ∙ ap (λ (bs : List ℕ). codes "when" ++ bs) when.text_is
      ∙ ap (λ (bs : List ℕ). codes "when" ++ (spaced part_text b.0.0 ++ bs)) (after_takes line_end b.0.1 c.0 c.1)
      ∙ ap (λ (bs : List ℕ). codes "when" ++ (spaced part_text b.0.0 ++ (line_end ++ bs))) ending.text_is
      ∙ ap (λ (bs : List ℕ). codes "when" ++ (spaced part_text b.0.0 ++ (line_end ++ (end_text d.0.0 ++ bs)))) (after_takes line_end d.0.1 f.0 f.1)
      ∙ simp append_assoc in
      subst (λ (r : Path × List ℕ). Takes path_text IsPathOf bytes r.0 r.1) (some_is (made, f.0) (path, rest) f.2)
      (record { text_is = read; is_so = record { when = when.is_so; end = ending.is_so } })

  path_again : (path : Path) (rest : List ℕ) → IsPathOf path → Ends rest → path_at p (path_text path ++ rest) ≡ Some (path, rest)
  unfolding path_at path_text
  path_again path rest is ends =
      let grouped : path_text path ++ rest ≡ codes "when" ++ (spaced part_text path.when ++ (line_end ++ (end_text path.end ++ (line_end ++ rest)))) = simp append_assoc in
      ap (path_at p) grouped
      ∙ rw (
        after_again (codes "when") (spaced part_text path.when ++ (line_end ++ (end_text path.end ++ (line_end ++ rest)))),
        parts_codec.again path.when (line_end ++ (end_text path.end ++ (line_end ++ rest))) is.when refl,
        after_again line_end (end_text path.end ++ (line_end ++ rest)),
        end_again path.end (line_end ++ rest) is.end refl,
        after_again line_end rest,
      ) refl

  pub path_codec : Codec path_text IsPathOf (path_at p)
  path_codec = record { takes = path_takes; again = path_again }

-- ---- lists under a line with their number
-- There are no more items than bytes.
listed_few : {A : Type 0} (text : A → List ℕ) → ((x : A) → 1 ≤ length (text x)) → (xs : List A) → length xs ≤ length (flat_map text xs)
listed_few text some [] = omega arith
listed_few text some (x ∷ xs) =
    let more = listed_few text some xs in
    let count : length (flat_map text (x ∷ xs)) ≡ length (text x) + length (flat_map text xs) = ap length (flat_map-cons text x xs) ∙ length-append (text x) (flat_map text xs) in
    let one = some x in
    omega (arith, more, count, one)

listed_takes : {A : Type 0} (word : List ℕ) (text : A → List ℕ) (Is : A → Type 0) (item : List ℕ → Read A) → Codec text Is item → ((x : A) → 1 ≤ length (text x))
    → (bytes : List ℕ) (xs : List A) (rest : List ℕ) → Few bytes → listed_at word item bytes ≡ Some (xs, rest) → Takes (λ ys. listed word text ys) (AreStored Is) bytes xs rest
unfolding listed_at
listed_takes {A} word text Is item h some bytes xs rest few e =
    let a = bound (after word bytes) (λ r. nat_at r >>= λ n. after line_end n.1 >>= λ r. many item n.0 r) (xs, rest) e in
    let b = bound (nat_at a.0) (λ n. after line_end n.1 >>= λ r. many item n.0 r) (xs, rest) a.2 in
    let c = bound (after line_end b.0.1) (λ r. many item b.0.0 r) (xs, rest) b.2 in
    let few_c : Few c.0 = few_after line_end b.0.1 c.0 c.1 (fewer (decimal b.0.0) a.0 b.0.1 (nat_takes a.0 b.0.0 b.0.1 b.1) (few_after word bytes a.0 a.1 few)) in
    let counted = many_takes text Is item h b.0.0 c.0 xs rest few_c c.2 in
    let count : length c.0 ≡ length (flat_map text xs) + length rest = ap length counted.text_is ∙ length-append (flat_map text xs) rest in
    let many : length xs < 2 ^ 64 = let less = listed_few text some xs in omega (arith, few_c, count, less) in
    let read : bytes ≡ listed word text xs ++ rest =
    after_takes word bytes a.0 a.1
    ∙ ap (λ (bs : List ℕ). word ++ bs) (nat_takes a.0 b.0.0 b.0.1 b.1)
    ∙ ap (λ (bs : List ℕ). word ++ (decimal b.0.0 ++ bs)) (after_takes line_end b.0.1 c.0 c.1)
    ∙ ap (λ (n : ℕ). word ++ (decimal n ++ (line_end ++ c.0))) (sym counted.is_so.many)
    ∙ ap (λ (bs : List ℕ). word ++ (decimal (length xs) ++ (line_end ++ bs))) counted.text_is
    ∙ simp append_assoc in
    record { text_is = read; is_so = record { many = many; each = counted.is_so.each } }

listed_again : {A : Type 0} (word : List ℕ) (text : A → List ℕ) (Is : A → Type 0) (item : List ℕ → Read A) → Codec text Is item → ((x : A) (rest : List ℕ) → Ends (text x ++ rest))
    → (xs : List A) (rest : List ℕ) → AreStored Is xs → Ends rest → listed_at word item (listed word text xs ++ rest) ≡ Some (xs, rest)
unfolding listed_at
listed_again {A} word text Is item h starts xs rest is ends =
    let grouped : listed word text xs ++ rest ≡ word ++ (decimal (length xs) ++ (line_end ++ (flat_map text xs ++ rest))) = simp append_assoc in
    ap (listed_at word item) grouped
    ∙ rw (
      after_again word (decimal (length xs) ++ (line_end ++ (flat_map text xs ++ rest))),
      nat_again (length xs) (line_end ++ (flat_map text xs ++ rest)) (omega (arith, is.many)) refl,
      after_again line_end (flat_map text xs ++ rest),
    ) ((many_codec text Is item h starts (length xs)).again xs rest (record { many = refl; each = is.each }) ends)

pub listed_codec : {A : Type 0} (word : List ℕ) (text : A → List ℕ) (Is : A → Type 0) (item : List ℕ → Read A) → Codec text Is item → ((x : A) (rest : List ℕ) → Ends (text x ++ rest)) → ((x : A) → 1 ≤ length (text x))
    → Codec (λ xs. listed word text xs) (AreStored Is) (listed_at word item)
listed_codec word text Is item h starts some = record { takes = listed_takes word text Is item h some; again = listed_again word text Is item h starts }

-- A text isn't empty that begins with one that isn't.
pub starts_some : (front rest text : List ℕ) → 1 ≤ length front → text ≡ front ++ rest → 1 ≤ length text
starts_some front rest text some is =
    let count : length text ≡ length front + length rest = ap length is ∙ length-append front rest in
    omega (arith, some, count)

module _ (p : ScriptPlan) where
  path_starts : (path : Path) (rest : List ℕ) → Ends (path_text path ++ rest)
  unfolding path_text
  path_starts path rest = refl

  path_some : (path : Path) → 1 ≤ length (path_text path)
  unfolding path_text
  path_some path = starts_some (codes "when") (spaced part_text path.when ++ line_end ++ end_text path.end ++ line_end) (path_text path) (omega arith) (simp append_assoc)

  segment_some : (paths : List Path) → 1 ≤ length (segment_text paths)
  unfolding segment_text
  segment_some paths = starts_some (codes "segment ") (decimal (length paths) ++ line_end ++ flat_map path_text paths) (segment_text paths) (omega arith) (simp append_assoc)

  segment_starts : (paths : List Path) (rest : List ℕ) → Ends (segment_text paths ++ rest)
  unfolding segment_text
  segment_starts paths rest = refl

  pub segment_codec : Codec segment_text (AreStored (IsPathOf p)) (segment_at p)
  unfolding segment_at segment_text
  segment_codec = listed_codec (codes "segment ") path_text (IsPathOf p) (path_at p) (path_codec p) path_starts path_some

  segments_codec : Codec (λ segments. listed (codes "chain ") segment_text segments) (AreStored (AreStored (IsPathOf p))) (listed_at (codes "chain ") (segment_at p))
  segments_codec = listed_codec (codes "chain ") segment_text (AreStored (IsPathOf p)) (segment_at p) segment_codec segment_starts segment_some

  -- A chain of one segment or more, which keeps no records.
  pub record IsChainRead (chain : Chained) : Type 0 where
    pub some : 1 ≤ length chain.segments
    pub each : AreStored (AreStored (IsPathOf p)) chain.segments
    pub closed : chain.kept ≡ []

  same_chain : (segments : List (List Path)) (chain : Chained) → chain_of segments ≡ Some chain → closed_chain segments ≡ chain
  same_chain [] chain e = absurd cc
  same_chain (s ∷ ss) chain e = some_is (closed_chain (s ∷ ss)) chain e

  chain_some : (segments : List (List Path)) (chain : Chained) → chain_of segments ≡ Some chain → 1 ≤ length segments
  chain_some [] chain e = absurd cc
  chain_some (s ∷ ss) chain e = omega arith

  chain_there : (segments : List (List Path)) → 1 ≤ length segments → chain_of segments ≡ Some (closed_chain segments)
  chain_there [] some = absurd (omega (arith, some))
  chain_there (s ∷ ss) some = refl

  chain_takes : (bytes : List ℕ) (chain : Chained) (rest : List ℕ) → Few bytes → chain_at p bytes ≡ Some (chain, rest) → Takes chain_text IsChainRead bytes chain rest
  unfolding chain_at chain_text
  chain_takes bytes chain rest few e =
      let a = bound (listed_at (codes "chain ") (segment_at p) bytes) (λ ss. chain_of ss.0 >>= λ c. Some (c, ss.1)) (chain, rest) e in
      let b = bound (chain_of a.0.0) (λ c. Some (c, a.0.1)) (chain, rest) a.2 in
      let t = segments_codec.takes bytes a.0.0 a.0.1 few a.1 in
      let same : closed_chain a.0.0 ≡ b.0 = same_chain a.0.0 b.0 b.1 in
      subst (λ (r : Chained × List ℕ). Takes chain_text IsChainRead bytes r.0 r.1) (ap (λ (c : Chained). (c, a.0.1)) same ∙ some_is (b.0, a.0.1) (chain, rest) b.2)
      (record {
        text_is = t.text_is;
        is_so = record { some = chain_some a.0.0 b.0 b.1; each = t.is_so; closed = refl };
      })

  chain_again : (chain : Chained) (rest : List ℕ) → IsChainRead chain → Ends rest → chain_at p (chain_text chain ++ rest) ≡ Some (chain, rest)
  unfolding chain_at chain_text
  chain_again chain rest is ends =
      let same : closed_chain chain.segments ≡ chain = ap (λ (kept : List Record). record { segments = chain.segments; kept = kept }) (sym is.closed) in
      rw (segments_codec.again chain.segments rest is.each ends, chain_there chain.segments is.some) (ap (λ (c : Chained). Some (c, rest)) same)

  pub chain_codec : Codec chain_text IsChainRead (chain_at p)
  chain_codec = record { takes = chain_takes; again = chain_again }
