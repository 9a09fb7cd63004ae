-- Each form of a line, with its places moved into the file.
use Rattle.reader.proofs.InFile.{line_blank, line_comment, line_broken, header_fits, line_header, key_fits, value_fits, setting_inside_file, line_setting}
use Rattle.std.specs.Prelude.{Ok}
use Rattle.std.proofs.Common.{refl, ap, ◌∙◌}
use Rattle.std.proofs.lemmas.Result.{err_from_is_err_and}
use Rattle.reader.proofs.judging.line_at.Goals as goal

pub moved-requires : goal.moved-requires
moved-requires c = header_fits c.args.d c.args.file.now c.args.start c.args.end c.requires.low c.requires.within c.form_of.ensures (c.in_ok-form_of.was ∙ ap Ok c.in-Header.is)

pub moved-k-requires : goal.moved-k-requires
moved-k-requires c = key_fits c.args.d c.args.file.now c.args.start c.args.end c.requires.low c.requires.within c.form_of.ensures (c.in_ok-form_of.was ∙ ap Ok c.in-Setting.is)

pub moved-v-requires : goal.moved-v-requires
moved-v-requires c = value_fits c.args.d c.args.file.now c.args.start c.args.end c.requires.low c.requires.within c.form_of.ensures (c.in_ok-form_of.was ∙ ap Ok c.in-Setting.is)

pub setting_line-requires : goal.setting_line-requires
setting_line-requires c = let i = setting_inside_file c.args.d c.args.file.now c.args.start c.args.end c.requires.low c.requires.within c.form_of.ensures (c.in_ok-form_of.was ∙ ap Ok c.in-Setting.is) c.moved-k.ensures c.moved-v.ensures in record { key_in = i.0; value_in = i.1; rows = c.requires.rows }

pub returns-in-Blank : goal.returns-in-Blank
returns-in-Blank c = line_blank c.args.d c.args.file.now c.args.start c.args.end c.requires.low c.requires.within c.form_of.ensures (c.in_ok-form_of.was ∙ ap Ok c.in-Blank.is)

pub returns-in-Comment : goal.returns-in-Comment
returns-in-Comment c = line_comment c.args.d c.args.file.now c.args.start c.args.end c.requires.low c.requires.within c.form_of.ensures (c.in_ok-form_of.was ∙ ap Ok c.in-Comment.is)

pub returns-in-Header : goal.returns-in-Header
returns-in-Header c = line_header c.args.d c.args.file.now c.args.start c.args.end c.requires.low c.requires.within c.form_of.ensures (c.in_ok-form_of.was ∙ ap Ok c.in-Header.is) c.moved.ensures

pub returns-in-Setting : goal.returns-in-Setting
returns-in-Setting c = line_setting c.args.d c.args.file.now c.args.start c.args.end c.requires.low c.requires.within c.form_of.ensures (c.in_ok-form_of.was ∙ ap Ok c.in-Setting.is) c.moved-k.ensures c.moved-v.ensures c.setting_line.ensures

pub returns-in_err-form_of : goal.returns-in_err-form_of
returns-in_err-form_of c =
    let p = err_from_is_err_and c.from_residual.result c.from_residual.ensures.1 in
    rw (p.1, p.2) (line_broken c.args.d c.args.file.now c.args.start c.args.end c.requires.low c.requires.within c.form_of.ensures c.in_err-form_of.was refl)
