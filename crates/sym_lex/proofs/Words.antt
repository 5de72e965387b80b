-- Keywords by their texts.
use Rattle.std.proofs.Common.{◌≡◌, ◌≢◌, ◌==◌, ℕ, ◌≤◌, Bool, true, false, cond, List, [], ◌∷◌, length, map, Some, None, is_some, refl, sym, ap, subst, ◌∙◌, arith}
use Rattle.std.proofs.lemmas.Option.{same_Some}
use Rattle.std.proofs.lemmas.Slice.Eq.{bytes_eq-Decides}
use Rattle.std.specs.List.{filter, find, list_any}
use Rattle.std.specs.Str.{bytes_eq}
use Rattle.sym_lex.specs.declared.keyword.Keyword.{Keyword}
use Rattle.sym_lex.specs.declared.keyword.Keyword.TheVariants as keyword
use Rattle.sym_lex.specs.Keywords.{keyword_of, keyword_text, keywords, keywords_of_length}
use Rattle.sym_base.specs.Limits.{max_name_bytes}
use Rattle.sym_base.specs.Names.{is_keyword, keyword_texts}
use Rattle.sym_lex.proofs.Bytes.{by_test, eq-self}

pub find-passes : {X : Type 0} (p : X → Bool) (xs : List X) (x : X) → find p xs ≡ Some x → p x ≡ true
find-passes {X} p [] x e = cc
find-passes {X} p (y ∷ ys) x e =
    let step : (b : Bool) → p y ≡ b → cond b (Some y) (find p ys) ≡ Some x → p x ≡ true = λ b. elim b as (λ b. p y ≡ b → cond b (Some y) (find p ys) ≡ Some x → p x ≡ true) [
      | true ↦ λ q r. subst (λ z. p z ≡ true) (same_Some y x r) q
      | false ↦ λ q r. find-passes p ys x r
    ] in
    step (p y) refl e

pub keyword-own : (k : Keyword) → keyword_of (keyword_text k) ≡ Some k
unfolding keyword_of keywords
keyword-own keyword.Enum = refl
keyword-own keyword.Field = refl
keyword-own keyword.From = refl
keyword-own keyword.Num = refl
keyword-own keyword.Word = refl
keyword-own keyword.Else = refl
keyword-own keyword.Group = refl
keyword-own keyword.State = refl
keyword-own keyword.Int = refl
keyword-own keyword.Nums = refl
keyword-own keyword.Words = refl
keyword-own keyword.Hold = refl
keyword-own keyword.Test = refl
keyword-own keyword.Update = refl
keyword-own keyword.Report = refl
keyword-own keyword.Let = refl
keyword-own keyword.Push = refl
keyword-own keyword.Keep = refl
keyword-own keyword.If = refl
keyword-own keyword.And = refl
keyword-own keyword.Or = refl
keyword-own keyword.Not = refl
keyword-own keyword.Is = refl
keyword-own keyword.Clamp = refl

pub find-none : {A : Type 0} (p : A → Bool) (xs : List A) → ((x : A) → p x ≡ false) → find p xs ≡ None
find-none p [] h = refl
find-none p (x ∷ xs) h = rw (h x) (find-none p xs h)

pub keyword-none : (text : List ℕ) → ((k : Keyword) → text ≢ keyword_text k) → keyword_of text ≡ None
unfolding keyword_of keywords
keyword-none text h = find-none (λ k. bytes_eq (keyword_text k) text) keywords (λ k. by_test (bytes_eq (keyword_text k) text) (λ t. absurd (h k (sym ((bytes_eq-Decides (keyword_text k) text).0 t)))) (λ t. t))

pub keyword-is : (text : List ℕ) (k : Keyword) → keyword_of text ≡ Some k → text ≡ keyword_text k
unfolding keyword_of keywords
keyword-is text k e = sym ((bytes_eq-Decides (keyword_text k) text).0 (find-passes (λ k. bytes_eq (keyword_text k) text) keywords k e))

-- No keyword is longer than a name may be.
pub keyword-short : (k : Keyword) → length (keyword_text k) ≤ max_name_bytes
keyword-short keyword.Enum = omega arith
keyword-short keyword.Field = omega arith
keyword-short keyword.From = omega arith
keyword-short keyword.Num = omega arith
keyword-short keyword.Word = omega arith
keyword-short keyword.Else = omega arith
keyword-short keyword.Group = omega arith
keyword-short keyword.State = omega arith
keyword-short keyword.Int = omega arith
keyword-short keyword.Nums = omega arith
keyword-short keyword.Words = omega arith
keyword-short keyword.Hold = omega arith
keyword-short keyword.Test = omega arith
keyword-short keyword.Update = omega arith
keyword-short keyword.Report = omega arith
keyword-short keyword.Let = omega arith
keyword-short keyword.Push = omega arith
keyword-short keyword.Keep = omega arith
keyword-short keyword.If = omega arith
keyword-short keyword.And = omega arith
keyword-short keyword.Or = omega arith
keyword-short keyword.Not = omega arith
keyword-short keyword.Is = omega arith
keyword-short keyword.Clamp = omega arith

-- Only keywords of the text's length can be the text.
pub find-filtered : {X : Type 0} (p q : X → Bool) (xs : List X) → ((x : X) → p x ≡ true → q x ≡ true) → find p (filter q xs) ≡ find p xs
find-filtered p q [] h = refl
find-filtered p q (x ∷ xs) h = by_test (p x)
    (λ t. rw (h x t, t) refl)
    (λ t. by_test (q x) (λ u. rw (u, t) (find-filtered p q xs h)) (λ u. rw (u, t) (find-filtered p q xs h)))

pub keyword_by_length : (text : List ℕ) → find (λ k. bytes_eq (keyword_text k) text) (keywords_of_length (length text)) ≡ keyword_of text
unfolding keyword_of
keyword_by_length text =
    find-filtered (λ k. bytes_eq (keyword_text k) text) (λ k. length (keyword_text k) == length text) keywords
    (λ k t. let same : keyword_text k ≡ text = (bytes_eq-Decides (keyword_text k) text).0 t in
    subst (λ (w : List ℕ). (length (keyword_text k) == length w) ≡ true) same (eq-self (length (keyword_text k))))

-- The keywords are those of lawful scripts.
any-find : (p : List ℕ → Bool) (ks : List Keyword) → list_any p (map keyword_text ks) ≡ is_some (find (λ k. p (keyword_text k)) ks)
any-find p [] = refl
any-find p (k ∷ ks) = by_test (p (keyword_text k)) (λ t. rw t refl) (λ t. rw t (any-find p ks))

pub keyword-test : (text : List ℕ) → is_keyword text ≡ is_some (keyword_of text)
unfolding keyword_of keywords is_keyword keyword_texts
keyword-test text = any-find (λ word. bytes_eq word text) keywords

pub no-keyword : (text : List ℕ) → is_keyword text ≡ false → (k : Keyword) → text ≢ keyword_text k
no-keyword text h k same =
    let own : keyword_of text ≡ Some k = ap keyword_of same ∙ keyword-own k in
    let some : is_keyword text ≡ true = keyword-test text ∙ ap is_some own in
    let never : true ≡ false = sym some ∙ h in
    cc
