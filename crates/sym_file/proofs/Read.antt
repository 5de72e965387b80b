-- What reading a file comes to.
use Rattle.std.proofs.Common.{◌≡◌, ◌≢◌, ℕ, ◌+◌, ◌<◌, ◌^◌, List, ◌++◌, length, Some, None, Err, sym, ap, subst, ◌∙◌, append_assoc, arith, codes}
use Rattle.std.proofs.lemmas.List.{length-append}
use Rattle.std.specs.Fmt.{decimal}
use Rattle.sym_check.specs.Plan.ScriptPlans.{ScriptPlan}
use Rattle.sym_check.specs.Plan.WellFormed.{IsWellFormed}
use Rattle.sym_run.specs.SavedRuns.{IsLawfulSaved}
use Rattle.sym_run.specs.declared.saved.Saved.{Saved}
use Rattle.sym_file.specs.Reading.{Fails, body_at, script_at}
use Rattle.sym_file.specs.declared.saved_err.SavedErr.{SavedErr}
use Rattle.sym_file.specs.declared.saved_err.SavedErr.TheVariants as error
use Rattle.sym_file.specs.SavedTexts.{IsMalformed, IsOfOtherScript, IsReadAs, IsReadTo, IsSaved}
use Rattle.sym_file.specs.Stored.{IsStored}
use Rattle.sym_file.specs.Texts.{body_text, head_text}
use Rattle.sym_file.proofs.Codecs.{Few, fewer, some_is}
use Rattle.sym_file.proofs.Groups.{body_takes, script_again, script_takes}
use Rattle.sym_file.proofs.Lawful.{lawful_read, read_stored}

-- ---- the script that a text has
module _ (bytes : List ℕ) (few : length bytes < 2 ^ 64) where
  -- A script that the text has isn't longer than the text.
  short : (script rest : List ℕ) → bytes ≡ head_text script ++ rest → length script < 10 ^ 38
  unfolding head_text
  short script rest e =
      let whole : length bytes ≡ length ((codes "symple run 1\n" ++ codes "script " ++ decimal (length script) ++ codes "\n" ++ script) ++ rest) = ap length e in
      let head : List ℕ = codes "symple run 1\n" ++ codes "script " ++ decimal (length script) ++ codes "\n" in
      let grouped : (codes "symple run 1\n" ++ codes "script " ++ decimal (length script) ++ codes "\n" ++ script) ++ rest ≡ head ++ (script ++ rest) = simp append_assoc in
      let count : length bytes ≡ length head + (length script + length rest) = whole ∙ ap length grouped ∙ length-append head (script ++ rest) ∙ ap (λ (n : ℕ). length head + n) (length-append script rest) in
      omega (arith, few, count)

  script_read : (script rest : List ℕ) → bytes ≡ head_text script ++ rest → script_at bytes ≡ Some (script, rest)
  script_read script rest e = ap script_at e ∙ script_again script rest (short script rest e)

  same_script : (script rest other others : List ℕ) → script_at bytes ≡ Some (script, rest) → bytes ≡ head_text other ++ others → script ≡ other
  same_script script rest other others is e =
      ap (λ (q : List ℕ × List ℕ). q.0) (some_is (script, rest) (other, others) (sym is ∙ script_read other others e))

  pub rest_few : (script rest : List ℕ) → script_at bytes ≡ Some (script, rest) → Few rest
  rest_few script rest is = fewer (head_text script) bytes rest (script_takes bytes script rest is) few

  -- A text of a script isn't of another.
  pub one_script : (own : List ℕ) (p : ScriptPlan) (saved : Saved) → IsSaved own p bytes saved → IsOfOtherScript own bytes → ⊥
  one_script own p saved h o =
      o.differs (sym (same_script own (body_text saved) o.other o.rest (script_read own (body_text saved) h.text) o.parts))

module _ (own : List ℕ) (p : ScriptPlan) (formed : IsWellFormed p) (bytes : List ℕ) (few : length bytes < 2 ^ 64) where
  pub saved_read : (saved : Saved) → IsSaved own p bytes saved → script_at bytes ≡ Some (own, body_text saved)
  saved_read saved h = script_read bytes few own (body_text saved) h.text

  pub no_script : script_at bytes ≡ None → IsMalformed own p bytes
  no_script e = record {
    same = λ o. let f = script_read bytes few o.other o.rest o.parts in cc (e, f);
    none = λ saved stored h. let f = saved_read saved h in cc (e, f);
  }

  module _ (script rest : List ℕ) (is : script_at bytes ≡ Some (script, rest)) where
    pub other_script : script ≢ own → IsOfOtherScript own bytes
    other_script apart = record { other = script; rest = rest; parts = script_takes bytes script rest is; differs = apart }

    not_other : script ≡ own → IsOfOtherScript own bytes → ⊥
    not_other same o = o.differs (sym (same_script bytes few script rest o.other o.rest is o.parts) ∙ same)

    rest_is : (saved : Saved) → IsSaved own p bytes saved → rest ≡ body_text saved
    rest_is saved h = ap (λ (q : List ℕ × List ℕ). q.1) (some_is (script, rest) (own, body_text saved) (sym is ∙ saved_read saved h))

    pub script_is : (saved : Saved) → IsSaved own p bytes saved → script ≡ own
    script_is saved h = same_script bytes few script rest own (body_text saved) is h.text

    pub whole_read : (saved : Saved) → IsStored saved → IsSaved own p bytes saved → body_at p rest ≡ Some saved
    whole_read saved stored h = ap (body_at p) (rest_is saved h) ∙ lawful_read p saved formed h.lawful stored

    pub no_body : script ≡ own → body_at p rest ≡ None → IsMalformed own p bytes
    no_body same e = record {
      same = not_other same;
      none = λ saved stored h. let f = whole_read saved stored h in cc (e, f);
    }

    pub unlawful : (saved : Saved) → script ≡ own → body_at p rest ≡ Some saved → (IsLawfulSaved p saved → ⊥) → IsMalformed own p bytes
    unlawful saved same e none = record {
      same = not_other same;
      none = λ other stored h.
          let one : saved ≡ other = some_is saved other (sym e ∙ whole_read other stored h) in
          none (subst (IsLawfulSaved p) (sym one) h.lawful);
    }

    pub lawful_one : (saved : Saved) → script ≡ own → body_at p rest ≡ Some saved → IsLawfulSaved p saved → IsSaved own p bytes saved
    lawful_one saved same e lawful = record {
      lawful = lawful;
      text =
          script_takes bytes script rest is ∙ ap (λ (s : List ℕ). head_text s ++ rest) same
          ∙ ap (λ (r : List ℕ). head_text own ++ r) (body_takes p rest saved (rest_few bytes few script rest is) e).0;
    }

    pub stored_one : (saved : Saved) → body_at p rest ≡ Some saved → IsStored saved
    stored_one saved e = read_stored p saved (body_takes p rest saved (rest_few bytes few script rest is) e).1

pub one_saved : (own : List ℕ) (p : ScriptPlan) (formed : IsWellFormed p) (bytes : List ℕ) (few : length bytes < 2 ^ 64) (first second : Saved) → IsSaved own p bytes first → IsStored first
    → IsSaved own p bytes second → IsStored second → first ≡ second
one_saved own p formed bytes few first second a s b t =
    let is : script_at bytes ≡ Some (own, body_text first) = saved_read own p formed bytes few first a in
    some_is first second
    (sym (whole_read own p formed bytes few own (body_text first) is first s a) ∙ whole_read own p formed bytes few own (body_text first) is second t b)

-- ---- the answers of the public call
module _ (own : List ℕ) (p : ScriptPlan) (formed : IsWellFormed p) (bytes : List ℕ) (few : length bytes < 2 ^ 64) where
  pub stopped : (e : SavedErr) → Fails e (script_at bytes) → IsReadTo own p bytes (Err e)
  stopped error.OtherScript f = absurd f
  stopped error.Malformed f = no_script own p formed bytes few f
  stopped error.NoMemory f = tt

  pub stopped_only : (e : SavedErr) → Fails e (script_at bytes) → (saved : Saved) → IsStored saved → IsSaved own p bytes saved → IsReadAs saved (Err e)
  stopped_only error.OtherScript f saved stored h = absurd f
  stopped_only error.Malformed f saved stored h = let is = saved_read own p formed bytes few saved h in absurd (cc (f, is))
  stopped_only error.NoMemory f saved stored h = tt

  module _ (script rest : List ℕ) (is : script_at bytes ≡ Some (script, rest)) where
    pub other_only : script ≢ own → (saved : Saved) → IsSaved own p bytes saved → ⊥
    other_only apart saved h = apart (script_is own p formed bytes few script rest is saved h)

    pub broken : (e : SavedErr) → script ≡ own → Fails e (body_at p rest) → IsReadTo own p bytes (Err e)
    broken error.OtherScript same f = absurd f
    broken error.Malformed same f = no_body own p formed bytes few script rest is same f
    broken error.NoMemory same f = tt

    pub broken_only : (e : SavedErr) → Fails e (body_at p rest) → (saved : Saved) → IsStored saved → IsSaved own p bytes saved → IsReadAs saved (Err e)
    broken_only error.OtherScript f saved stored h = absurd f
    broken_only error.Malformed f saved stored h = let r = whole_read own p formed bytes few script rest is saved stored h in absurd (cc (f, r))
    broken_only error.NoMemory f saved stored h = tt

    pub whole_only : (run : Saved) → body_at p rest ≡ Some run → (saved : Saved) → IsStored saved → IsSaved own p bytes saved → run ≡ saved
    whole_only run f saved stored h = some_is run saved (sym f ∙ whole_read own p formed bytes few script rest is saved stored h)

    pub unlawful_only : (run : Saved) → body_at p rest ≡ Some run → (IsLawfulSaved p run → ⊥) → (saved : Saved) → IsStored saved → IsSaved own p bytes saved → ⊥
    unlawful_only run f none saved stored h =
        let one : saved ≡ run = sym (whole_only run f saved stored h) in
        none (subst (IsLawfulSaved p) one h.lawful)
