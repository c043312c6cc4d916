use Rattle.std.proofs.Common.{◌≡◌, ◌+◌, ◌++◌, ◌∙◌, List, [], ℕ, length, take, drop, slice_index_or, ap, subst, sym}
use Rattle.std.proofs.lemmas.List.{get_or_read, take_at}
use Rattle.due_sums.specs.Counts.{AreReaders, GainReader, lists_of}
use Rattle.due_sums.proofs.ReaderLaws.{AreReaders-more}
use Rattle.due_sums.proofs.readers.readers_of.Goals as goal

pub loop-group-preserved : goal.loop-group-preserved
loop-group-preserved c =
    let sums = c.args.groups.now in
    let sum = c.loop-group.group in
    let old = c.loop-group.readers.items in
    let new = c.add_reader.new.readers in
    let all = c.as_slice-inputs-items.result.now in
    let inputs : c.as_slice.result.now ≡ slice_index_or sums sum [] =
    c.as_slice.ensures ∙ get_or_read all sum c.inputs-item.result c.loop-group-test.true c.inputs-item.is []
    ∙ ap (λ (sums : List (List ℕ)). slice_index_or sums sum []) c.as_slice-inputs-items.ensures in
    let added : GainReader sum c.as_slice.result.now (lists_of c.deref_mut.result.now) (lists_of new) = c.in_ok-add_reader.ensures in
    let gain : GainReader sum (slice_index_or sums sum []) (lists_of old) (lists_of new) =
    subst (λ inputs. GainReader sum inputs (lists_of old) (lists_of new)) inputs
    (subst (λ lists. GainReader sum c.as_slice.result.now (lists_of lists) (lists_of new)) c.deref_mut.ensures.value added) in
    let back : take c.loop-group.readers.len (new ++ drop (length new) old) ≡ new = take_at new (drop (length new) old) c.loop-group.readers.len (c.add_reader.auto.readers ∙ c.deref_mut.ensures.len) in
    subst (λ lists. AreReaders c.args.inputs (take (sum + 1) sums) (lists_of lists)) (sym back)
    (AreReaders-more c.args.inputs sum sums (lists_of old) (lists_of new) c.loop-group.invariant gain)
