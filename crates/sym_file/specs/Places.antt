-- Where the chains of groups stand in texts of saved runs, and the groups that they come to when the
-- chains of each key are joined in turn.
use Rattle.std.specs.Prelude.{◌≡◌, ◌≤◌, ℕ, suc, ◌-◌, List, [], ◌∷◌, ◌++◌, codes, drop, length, Option, Some, None, IfSome, slice_get}
use Rattle.std.specs.List.{All, AllZip}
use Rattle.std.specs.Map.{lookup}
use Rattle.sym_base.specs.declared.values.value.Key.{Key}
use Rattle.sym_check.specs.Meaning.Groups.{is_key}
use Rattle.sym_check.specs.Plan.ScriptPlans.{ScriptPlan}
use Rattle.sym_plain.specs.Pairs.{HaveDistinctKeys, put}
use Rattle.sym_run.specs.Chained.{Chained}
use Rattle.sym_run.specs.ClosedJoins.{IsChainJoin, IsJoinable}
use Rattle.sym_run.specs.SavedRuns.{IsLawfulGroup}
use Rattle.sym_run.specs.declared.saved.Saved.{Saved}
use Rattle.sym_file.specs.JoinedTexts.{IsTextJoined}
use Rattle.sym_file.specs.Reading.{chain_at, head_at, key_at, script_at}
use Rattle.sym_file.specs.TakenTexts.{IsRunFile}

-- A chain stands in the text of this number: it begins with these bytes, which go on to the end of
-- the text, and so many of them come after it.
pub record ChainPlace : Type 0 where
  pub text : ℕ
  pub at : List ℕ
  pub rest : ℕ

-- The bytes after the chain.
abbrev pub bytes_after : ChainPlace → List ℕ
bytes_after place = drop (length place.at - place.rest) place.at

-- The numbers of a saved run's first record, and of the record after its last.
pub record Span : Type 0 where
  pub first : ℕ
  pub next : ℕ

-- ---- the groups of a text
-- Each key of some bytes with the place of its chain, up to these other bytes.
pub data AreEntries (p : ScriptPlan) (text : ℕ)
    : List ℕ → List (Key × ChainPlace) → List ℕ → Type 0 where
  no_entry : (bytes : List ℕ) → AreEntries p text bytes [] bytes
  one_more : (bytes at end : List ℕ) (key : Key) (rest : ℕ) (entries : List (Key × ChainPlace))
      → key_at p bytes ≡ Some (key, at)
      → rest ≤ length at
      → AreEntries p text (drop (length at - rest) at) entries end
      → AreEntries p text bytes ((key, record { text = text; at = at; rest = rest }) ∷ entries) end

-- The head of a text is that of a saved run of the script, and after it come these entries, with
-- distinct keys, and nothing else.
pub record IsScanned (script : List ℕ) (p : ScriptPlan) (text : ℕ) (bytes : List ℕ) (span : Span)
    (entries : List (Key × ChainPlace)) : Type 0 where
  pub rest : List ℕ
  pub scripted : script_at bytes ≡ Some (script, rest)
  pub body : List ℕ
  pub headed : head_at rest ≡ Some ((span.first, span.next, length entries), body)
  pub are : AreEntries p text body entries (codes "end\n")
  pub distinct : HaveDistinctKeys entries

-- The same of each text, from this number on, and the entries of all of them in order.
pub data AreScanned (script : List ℕ) (p : ScriptPlan)
    : ℕ → List (List ℕ) → List Span → List (Key × ChainPlace) → Type 0 where
  no_text : (text : ℕ) → AreScanned script p text [] [] []
  text_more : (text : ℕ) (bytes : List ℕ) (texts : List (List ℕ)) (span : Span) (spans : List Span)
      (entries others : List (Key × ChainPlace))
      → IsScanned script p text bytes span entries
      → AreScanned script p (suc text) texts spans others
      → AreScanned script p text (bytes ∷ texts) (span ∷ spans) (entries ++ others)

-- The first record of each text but the first has the number after the last one before it, and
-- numbers are in order, from 1 on.
abbrev pub AreInOrder : List Span → Type 0
AreInOrder [] = Unit {0}
AreInOrder (span ∷ []) = (1 ≤ span.first) × (span.first ≤ span.next)
AreInOrder (span ∷ other ∷ spans) =
    (1 ≤ span.first) × (span.first ≤ span.next) × (other.first ≡ span.next)
    × AreInOrder (other ∷ spans)

-- ---- by key
abbrev pub places_of : Option (List ChainPlace) → List ChainPlace
places_of None = []
places_of (Some places) = places

-- Each key with its places in order, after one entry more. A new key goes last.
abbrev pub placed : List (Key × List ChainPlace) → Key × ChainPlace → List (Key × List ChainPlace)
placed groups entry =
    put groups entry.0 (places_of (lookup (is_key entry.0) groups) ++ entry.1 ∷ [])

-- The same after more entries.
abbrev pub placed_all : List (Key × List ChainPlace) → List (Key × ChainPlace)
    → List (Key × List ChainPlace)
placed_all groups [] = groups
placed_all groups (entry ∷ entries) = placed_all (placed groups entry) entries

-- This chain stands there, and is lawful in the saved run of its text.
pub record IsChainThere (p : ScriptPlan) (spans : List Span) (key : Key) (place : ChainPlace)
    (chain : Chained) : Type 0 where
  pub reads : chain_at p place.at ≡ Some (chain, bytes_after place)
  pub span : Span
  pub of : slice_get spans place.text ≡ Some span
  pub lawful : IsLawfulGroup p span.first span.next (key, chain)

-- Chains in one: the first one, and then each other one is joined to what those before it come to.
pub data AreJoinedInTurn (p : ScriptPlan) (limit : ℕ) : List Chained → Chained → Type 0 where
  first_chain : (chain : Chained) → AreJoinedInTurn p limit (chain ∷ []) chain
  next_chain : (chains : List Chained) (before right joined : Chained)
      → AreJoinedInTurn p limit chains before
      → IsChainJoin p limit before right joined
      → AreJoinedInTurn p limit (chains ++ right ∷ []) joined

-- The chains of a key, read where they stand, in one.
pub record IsJoinOfPlaces (p : ScriptPlan) (limit : ℕ) (spans : List Span)
    (group : Key × List ChainPlace) (joined : Key × Chained) : Type 0 where
  pub key : joined.0 ≡ group.0
  pub chains : List Chained
  pub there : AllZip (IsChainThere p spans group.0) group.1 chains
  pub turn : AreJoinedInTurn p limit chains joined.1

-- Texts that are read by key: the entries of all of them, and the chains of each key in one.
pub record AreJoinedByKey (script : List ℕ) (p : ScriptPlan) (limit : ℕ) (texts : List (List ℕ))
    (spans : List Span) (groups : List (Key × Chained)) : Type 0 where
  pub entries : List (Key × ChainPlace)
  pub scanned : AreScanned script p 0 texts spans entries
  pub order : AreInOrder spans
  pub joined : AllZip (IsJoinOfPlaces p limit spans) (placed_all [] entries) groups

-- ---- in order
-- The saved runs of texts in one: that of the first one, and then that of each other one, which
-- follows, is joined to what those before it come to.
pub data AreTextsJoined (script : List ℕ) (p : ScriptPlan) (limit : ℕ)
    : List (List ℕ) → Saved → Type 0 where
  first_text : (bytes : List ℕ) (saved : Saved)
      → IsRunFile script p bytes saved
      → IsJoinable p saved
      → AreTextsJoined script p limit (bytes ∷ []) saved
  next_text : (texts : List (List ℕ)) (bytes : List ℕ) (before joined : Saved)
      → AreTextsJoined script p limit texts before
      → IsTextJoined script p bytes limit before joined
      → IsJoinable p joined
      → AreTextsJoined script p limit (texts ++ bytes ∷ []) joined
