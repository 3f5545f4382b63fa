-- Words as laid out.
pub mod Laying
