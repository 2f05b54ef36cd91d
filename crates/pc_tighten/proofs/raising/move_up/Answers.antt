use Rattle.std.proofs.Common.{length, refl}
use Rattle.std.proofs.lemmas.Option.{slice_get_read}
use Rattle.pc_tighten.specs.declared.draft.Draft.{Draft}
use Rattle.pc_tighten.proofs.Raised.{moved_up}
use Rattle.pc_tighten.proofs.raising.move_up.Goals as goal

pub returns : goal.returns
returns c =
    moved_up c.args.rows.now.items c.args.above c.args.under c.args.at c.index_mut.result.now c.index.result.now c.index_mut-2.result.now c.put.new.draft
    (let left : Draft = record { items = c.remove.new.self; rest = c.index_mut-2.result.now.rest } in left) c.index-item.result.now (record {
      apart = c.requires.apart;
      low_m = c.requires.above;
      low_t = c.requires.under;
      low_i = c.requires.there c.index.result.now (slice_get_read c.args.rows.now.items (length c.args.rows.now.items) c.args.under c.index.result.now refl c.requires.under c.index.ensures);
      above_is = c.index_mut.ensures.value;
      under_is = c.index.ensures;
      item_is = c.index-item.ensures;
      put_is = c.in_ok-put.ensures.row;
      put_split = c.in_ok-put.ensures.split;
      then_is = c.index_mut-2.ensures.value;
      left_is = c.remove.ensures.items;
      rest_is = refl;
    })
