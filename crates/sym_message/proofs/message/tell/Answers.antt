use Rattle.std.proofs.Common.{◌++◌, append_assoc, codes}
use Rattle.sym_message.proofs.TellingLemmas.{told-along}
use Rattle.sym_message.proofs.message.tell.Goals as goal

pub returns-in-Usage-clause-told : goal.returns-in-Usage-clause-told
returns-in-Usage-clause-told g c = rw c.in-Usage.is c.write_pieces.ensures.told

pub returns-in-Script-clause-told : goal.returns-in-Script-clause-told
returns-in-Script-clause-told g c = rw c.in-Script.is c.tell_script.ensures.told

pub returns-in-Branchy-clause-told : goal.returns-in-Branchy-clause-told
returns-in-Branchy-clause-told g c = rw c.in-Branchy.is c.tell_paths.ensures.told

pub returns-in-OtherScript-clause-told : goal.returns-in-OtherScript-clause-told
returns-in-OtherScript-clause-told g c =
    rw c.in-OtherScript.is
    (told-along _
    (codes "symple: " ++ (c.file_name-in-OtherScript.result.now ++ codes ": run of another script") ++ codes "\n")
    _ c.tell_file.ensures.told (simp (c.file_name-in-OtherScript.ensures, append_assoc)))

pub returns-in-Malformed-clause-told : goal.returns-in-Malformed-clause-told
returns-in-Malformed-clause-told g c =
    rw c.in-Malformed.is
    (told-along _
    (codes "symple: " ++ (c.file_name-in-Malformed.result.now ++ codes ": not a run file") ++ codes "\n")
    _ c.tell_file-in-Malformed.ensures.told (simp (c.file_name-in-Malformed.ensures, append_assoc)))

pub returns-in-Apart-clause-told : goal.returns-in-Apart-clause-told
returns-in-Apart-clause-told g c =
    rw c.in-Apart.is
    (told-along _
    (codes "symple: " ++ (c.file_name-in-Apart.result.now ++ codes ": records do not follow") ++ codes "\n")
    _ c.tell_file-in-Apart.ensures.told (simp (c.file_name-in-Apart.ensures, append_assoc)))

pub returns-in-Read-clause-told : goal.returns-in-Read-clause-told
returns-in-Read-clause-told g c =
    rw c.in-Read.is
    (told-along _
    (codes "symple: " ++ (c.file_name-in-Read.result.now ++ codes ": read fault") ++ codes "\n")
    _ c.tell_file-in-Read.ensures.told (simp (c.file_name-in-Read.ensures, append_assoc)))

pub returns-in-Write-clause-told : goal.returns-in-Write-clause-told
returns-in-Write-clause-told g c = rw c.in-Write.is c.write_pieces-in-Write.ensures.told

pub returns-in-NoMemory-clause-told : goal.returns-in-NoMemory-clause-told
returns-in-NoMemory-clause-told g c = rw c.in-NoMemory.is c.write_pieces-in-NoMemory.ensures.told
