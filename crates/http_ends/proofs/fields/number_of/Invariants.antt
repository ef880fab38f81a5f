use Rattle.std.proofs.Common.{◌≡◌, ◌^◌, ◌<◌, take, true}
use Rattle.std.specs.List.{list_all}
use Rattle.std.specs.Char.{is_ascii_digit}
use Rattle.std.specs.Str.Parse.{digits_value}
use Rattle.http_ends.proofs.fields.number_of.Given as goal

-- the number so far is that of the digits so far, which are as many
abbrev pub invariant-reading : goal.invariant-reading
invariant-reading l = record {
  value : l.number ≡ digits_value 10 (take l.byte-index l.text);
  digits : list_all is_ascii_digit (take l.byte-index l.text) ≡ true;
  small : l.number < 10 ^ l.byte-index;
}
