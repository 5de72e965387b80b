-- The words that can't be names. The list is this project's profile.
use Rattle.std.specs.Prelude.{ℕ, ◌==◌, List, [], ◌∷◌, length, Option, codes}
use Rattle.std.specs.List.{filter, find}
use Rattle.std.specs.Str.{bytes_eq}
use Rattle.sym_lex.specs.declared.keyword.Keyword.{Keyword}
use Rattle.sym_lex.specs.declared.keyword.Keyword.TheVariants as keyword

-- A keyword as it is written.
abbrev pub keyword_text : Keyword → List ℕ
keyword_text keyword.Enum = codes "enum"
keyword_text keyword.Field = codes "field"
keyword_text keyword.From = codes "from"
keyword_text keyword.Num = codes "num"
keyword_text keyword.Word = codes "word"
keyword_text keyword.Else = codes "else"
keyword_text keyword.Group = codes "group"
keyword_text keyword.State = codes "state"
keyword_text keyword.Int = codes "int"
keyword_text keyword.Nums = codes "nums"
keyword_text keyword.Words = codes "words"
keyword_text keyword.Hold = codes "hold"
keyword_text keyword.Test = codes "test"
keyword_text keyword.Update = codes "update"
keyword_text keyword.Report = codes "report"
keyword_text keyword.Let = codes "let"
keyword_text keyword.Push = codes "push"
keyword_text keyword.Keep = codes "keep"
keyword_text keyword.If = codes "if"
keyword_text keyword.And = codes "and"
keyword_text keyword.Or = codes "or"
keyword_text keyword.Not = codes "not"
keyword_text keyword.Is = codes "is"
keyword_text keyword.Clamp = codes "clamp"

unfoldable pub keywords : List Keyword
keywords =
    keyword.Enum ∷ keyword.Field ∷ keyword.From ∷ keyword.Num ∷ keyword.Word ∷ keyword.Else
    ∷ keyword.Group ∷ keyword.State ∷ keyword.Int ∷ keyword.Nums ∷ keyword.Words ∷ keyword.Hold
    ∷ keyword.Test ∷ keyword.Update ∷ keyword.Report ∷ keyword.Let ∷ keyword.Push ∷ keyword.Keep
    ∷ keyword.If ∷ keyword.And ∷ keyword.Or ∷ keyword.Not ∷ keyword.Is ∷ keyword.Clamp ∷ []

-- The keywords of this many bytes.
abbrev pub keywords_of_length : ℕ → List Keyword
keywords_of_length n = filter (λ k. length (keyword_text k) == n) keywords

-- The keyword that is written so, if there is one.
unfoldable pub keyword_of : List ℕ → Option Keyword
keyword_of text = find (λ k. bytes_eq (keyword_text k) text) keywords
