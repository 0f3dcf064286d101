use Rattle.std.proofs.Common.{◌∙◌, sym, refl, arith, ◌/◌, ◌%◌}
use Rattle.std.proofs.lemmas.Option.{slice_get_read}
use Rattle.numbering.proofs.Pagelaws.{page_there, place_there, there_is, with_row_is}
use Rattle.numbering.proofs.pages.Pages.row_mut.Goals as goal

pub index_mut-page-requires : goal.index_mut-page-requires
index_mut-page-requires g c =
    let long = c.args.self.now.pages.ok.0 in
    let low = page_there c.args.self.now c.args.n c.requires in
    omega arith

pub index_mut-requires : goal.index_mut-requires
index_mut-requires g c =
    let page = c.index_mut-page.result.now in
    let long = c.args.self.now.pages.ok.0 in
    let e = slice_get_read c.args.self.now.pages.items _ (c.args.n / 1024) page refl (page_there c.args.self.now c.args.n c.requires) c.index_mut-page.ensures.value in
    let low = place_there c.args.self.now c.args.n page e c.requires in
    let room = page.ok.0 in
    omega arith

pub returns : goal.returns
returns g c =
    let page = c.index_mut-page.result.now in
    let e = slice_get_read c.args.self.now.pages.items _ (c.args.n / 1024) page refl (page_there c.args.self.now c.args.n c.requires) c.index_mut-page.ensures.value in
    let low = place_there c.args.self.now c.args.n page e c.requires in
    let value = slice_get_read page.items _ (c.args.n % 1024) c.index_mut.result.now refl low c.index_mut.ensures.value in (
      (refl, λ w. with_row_is c.args.self.now c.args.n page e w),
      record { writes_back = tt; value = sym value ∙ sym (there_is c.args.self.now c.args.n page e) },
    )
