-- What an operation's answer says in print.
pub mod Told
