-- Which runs of calls have a call that failed.
use Rattle.std.specs.Prelude.{◌≡◌, ◌||◌, ◌+◌, ℕ, Bool, true, false, List, [], ◌∷◌, ◌++◌, length}
use Rattle.std.specs.List.{list_any}
use Rattle.std.proofs.Common.{refl, sym, ap, ◌∙◌, subst}
use Rattle.std.proofs.lemmas.List.Folds.{list_any-append}
use Rattle.lif_outside.specs.Events.{Event, read, read_failed, created, create_failed, appended, append_failed, is_failed_read, is_failed_write}
use Rattle.lif_outside.specs.FileCalls.{AreReadsFrom, ReadsWhole, ReadsToFault, AreAppendsTo}

-- whether a read among the calls failed, and whether a create or an append did
pub record HaveFailed (reads writes : Bool) (events : List Event) : Type 0 where
  pub failed_read : list_any is_failed_read events ≡ reads
  pub failed_write : list_any is_failed_write events ≡ writes

pub failed-append : (a b c d : Bool) (first later : List Event) → HaveFailed a b first → HaveFailed c d later → HaveFailed (a || c) (b || d) (first ++ later)
failed-append a b c d first later one other = record {
  failed_read = list_any-append is_failed_read first later ∙ ap (λ x. x || list_any is_failed_read later) one.failed_read ∙ ap (λ x. a || x) other.failed_read;
  failed_write = list_any-append is_failed_write first later ∙ ap (λ x. x || list_any is_failed_write later) one.failed_write ∙ ap (λ x. b || x) other.failed_write;
}

pub none_failed : (events : List Event) → events ≡ [] → HaveFailed false false events
none_failed events none = subst (HaveFailed false false) (sym none) (record { failed_read = refl; failed_write = refl })

pub reads_unfailed : (at : ℕ) (path : List ℕ) (events : List Event) → AreReadsFrom at path events → HaveFailed false false events
reads_unfailed at path [] reads = record { failed_read = refl; failed_write = refl }
reads_unfailed at path (read other where_at more came ∷ events) reads =
    let rest = reads_unfailed (at + length came) path events reads.3 in record { failed_read = rest.failed_read; failed_write = rest.failed_write }
reads_unfailed at path (read_failed other where_at more ∷ events) reads = absurd reads
reads_unfailed at path (created other ∷ events) reads = absurd reads
reads_unfailed at path (create_failed other ∷ events) reads = absurd reads
reads_unfailed at path (appended other came ∷ events) reads = absurd reads
reads_unfailed at path (append_failed other came ∷ events) reads = absurd reads

pub appends_unfailed : (paths : List (List ℕ)) (events : List Event) → AreAppendsTo paths events → HaveFailed false false events
appends_unfailed paths [] appends = record { failed_read = refl; failed_write = refl }
appends_unfailed paths (appended other came ∷ events) appends =
    let rest = appends_unfailed paths events appends.1 in record { failed_read = rest.failed_read; failed_write = rest.failed_write }
appends_unfailed paths (read other where_at more came ∷ events) appends = absurd appends
appends_unfailed paths (read_failed other where_at more ∷ events) appends = absurd appends
appends_unfailed paths (created other ∷ events) appends = absurd appends
appends_unfailed paths (create_failed other ∷ events) appends = absurd appends
appends_unfailed paths (append_failed other came ∷ events) appends = absurd appends

pub whole_unfailed : (path : List ℕ) (limit : ℕ) (bytes : List ℕ) (events : List Event) → ReadsWhole path limit bytes events → HaveFailed false false events
whole_unfailed path limit bytes events whole =
    subst (HaveFailed false false) (sym whole.ended) (failed-append false false false false whole.front _ (reads_unfailed 0 path whole.front whole.reads) (record { failed_read = refl; failed_write = refl }))

pub fault_failed : (path : List ℕ) (limit : ℕ) (events : List Event) → ReadsToFault path limit events → HaveFailed true false events
fault_failed path limit events fault =
    subst (HaveFailed true false) (sym fault.failed) (failed-append false false true false fault.front _ (reads_unfailed 0 path fault.front fault.reads) (record { failed_read = refl; failed_write = refl }))
