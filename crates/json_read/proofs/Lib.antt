mod Spaces
mod Structure
mod Numbers
mod Escapes
mod Texts
mod Utf8
mod Starts
mod States
mod Complete
mod Says
mod Readings
mod Slices
mod NumberSpans
pub mod OneValue
mod Duplicates
mod Repeats
mod Held
mod Ranges
mod Items
mod Preorder
mod Verdicts
mod TextSpans
mod EscapeSpans
mod ValueSpans
pub mod Pointed
pub mod Spelled
pub mod OneFault
mod Outcomes
pub mod PrintedAgain
