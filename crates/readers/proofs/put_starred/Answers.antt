-- `put_starred` stops at the refusal of the sizes, or leaves the encoded items of the floor (LeftLaws); the sizes are those that `scan` told (`floor_sized`).
use Rattle.std.proofs.lemmas.Result.{err_from_is_err_and}
use mathlib.Core.List.{List}
use lib.ListN.{length}
use Rattle.recording.specs.Read.{recording_of}
use Rattle.recording.specs.Recording.{Item, data_of}
use Rattle.writer.proofs.Steps.{sound}
use Rattle.view.specs.View.{floor_items}
use Rattle.recorder.proofs.LeftLaws.{Sized, left_refused, left_room, left_written}
use Rattle.readers.proofs.SizedLaws.{less_than_office, less_asked, floor_sized}
use Rattle.readers.proofs.put_starred.Goals as goal

-- once the sizes are settled: where the function started, the items that are to be written, and that the sizes are theirs
pub overflow_sub-sizes : goal.overflow_sub-sizes
overflow_sub-sizes c =
    let a = c.args in
    less_than_office a.label.now (recording_of a.content) a.sizes.office a.sizes.floor c.requires.text_value.1 c.requires.scan_told

pub less_size-shared-requires : goal.less_size-shared-requires
less_size-shared-requires c =
    let q = let a = c.args in
    less_asked a.label.now (recording_of a.content) a.sizes.office a.sizes.floor c.requires.text_value.1 c.requires.scan_told c.requires.text_value.0 in record { entries_len_bound = q.0; gone_bound = q.1 }

pub settle_floor-requires : goal.settle_floor-requires
settle_floor-requires c = sound c.args.content.bytes.now c.args.content.entries.now c.args.content.text.now c.requires.text_value.0

pub returns-in_err-settle_floor : goal.returns-in_err-settle_floor
returns-in_err-settle_floor c =
    let starred : List Item = let a = c.args in floor_items a.label.now (recording_of a.content) in
    let sized : let a = c.args in
    Sized (length a.texts.now) starred (length (data_of starred)) a.sizes.floor.entries c.less_size-shared.result = let a = c.args in
    let z = c.less_size-shared in
    floor_sized a.label.now (recording_of a.content) a.sizes.office a.sizes.floor c.requires.text_value.1 c.requires.scan_told c.requires.text_value.0 (length a.texts.now)
    z.result z.ensures in
    let p = err_from_is_err_and c.from_residual.result c.from_residual.ensures.1 in
    rw (p.1, p.2) (let a = c.args in
    let v = c.settle_floor in
    left_refused starred a.bytes.now a.numbers.now a.texts.now _ _ _ sized v.result v.ensures c.in_err-settle_floor.field-0.0 c.in_err-settle_floor.was)

pub put_floor-c-requires : goal.put_floor-c-requires
put_floor-c-requires c =
    let starred : List Item = let a = c.args in floor_items a.label.now (recording_of a.content) in
    let sized : let a = c.args in
    Sized (length a.texts.now) starred (length (data_of starred)) a.sizes.floor.entries c.less_size-shared.result = let a = c.args in
    let z = c.less_size-shared in
    floor_sized a.label.now (recording_of a.content) a.sizes.office a.sizes.floor c.requires.text_value.1 c.requires.scan_told c.requires.text_value.0 (length a.texts.now)
    z.result z.ensures in
    let v = c.settle_floor in
    let a = c.args in record {
      sound = sound a.content.bytes.now a.content.entries.now a.content.text.now c.requires.text_value.0;
      fits = left_room starred a.bytes.now a.numbers.now a.texts.now _ _ _ sized v.result v.ensures c.in_ok-settle_floor.was;
    }

pub returns : goal.returns
returns c =
    let starred : List Item = let a = c.args in floor_items a.label.now (recording_of a.content) in
    let sized : let a = c.args in
    Sized (length a.texts.now) starred (length (data_of starred)) a.sizes.floor.entries c.less_size-shared.result = let a = c.args in
    let z = c.less_size-shared in
    floor_sized a.label.now (recording_of a.content) a.sizes.office a.sizes.floor c.requires.text_value.1 c.requires.scan_told c.requires.text_value.0 (length a.texts.now)
    z.result z.ensures in
    let v = c.settle_floor in
    let a = c.args in
    left_written starred a.bytes.now a.numbers.now a.texts.now _ _ _ sized v.result v.ensures c.in_ok-settle_floor.was _ _ _
    c.put_floor-c.result c.put_floor-c.ensures
