use Rattle.std.proofs.Common.{◌≡◌, ◌∙◌, List, None, Some, ap, option_copied, option_map, rules, sym}
use Rattle.std.specs.Prelude.{slice_get}
use Rattle.wit_data.specs.Foreign.{ForeignItem}
use Rattle.wit_names.specs.declared.package_name.PackageName.{PackageName}
use Rattle.wit_ways.specs.steps.ForeignHomes.{home_place}
use Rattle.wit_ways.proofs.ForeignHomes.{home_noted, no_home}
use Rattle.wit_ways.proofs.foreign_home.foreign_home.Goals as goal

abbrev first : PackageName × List ForeignItem → PackageName
first e = e.0

pub returns-in_err-place : goal.returns-in_err-place
returns-in_err-place c =
    let none : home_place c.args.homes.now c.args.item.now ≡ None = search rules in
    let is : option_copied c.from_residual.result ≡ None = search rules in
    is ∙ no_home c.args.«package».now c.args.homes.now c.requires c.args.item.now none

pub returns-in_err-home : goal.returns-in_err-home
returns-in_err-home c =
    let noted : home_place c.args.homes.now c.args.item.now ≡ Some c.in_ok-place.place.now = search rules in
    let gone : slice_get c.args.«package».now.foreign_deps c.in_ok-place.place.now ≡ None = search rules in
    let is : option_copied c.from_residual-in_err-home.result ≡ None = search rules in
    is ∙ sym (ap (option_map first) gone) ∙ home_noted c.args.«package».now c.args.homes.now c.requires c.args.item.now c.in_ok-place.place.now noted

pub returns : goal.returns
returns c =
    let noted : home_place c.args.homes.now c.args.item.now ≡ Some c.in_ok-place.place.now = search rules in
    let there : slice_get c.args.«package».now.foreign_deps c.in_ok-place.place.now ≡ Some (c.in_ok-home.home.now, c.in_ok-home.field-0-1.now) = search rules in
    sym (ap (option_map first) there) ∙ home_noted c.args.«package».now c.args.homes.now c.requires c.args.item.now c.in_ok-place.place.now noted
